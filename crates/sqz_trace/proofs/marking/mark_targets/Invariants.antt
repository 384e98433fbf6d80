use Rattle.std.specs.Bool.{OnTrue}
use Rattle.sqz_trace.specs.Avoiding.{Outside}
use Rattle.sqz_trace.specs.Shades.{marks_of}
use Rattle.sqz_trace.specs.Edges.{IsTargetAmong}
use Rattle.sqz_trace.specs.Marking.{MarksTargets}
use Rattle.sqz_trace.specs.Soundness.{IsGood}
use Rattle.sqz_trace.proofs.marking.mark_targets.Given as goal

abbrev pub invariant-loop-slot : goal.invariant-loop-slot
invariant-loop-slot g l =
    record {
      marks : MarksTargets (Outside (g.A.Avoided.set l.avoided) (IsTargetAmong l.edges l.yielded)) (marks_of l.initial.shades)
          l.initial.worklist.items (marks_of l.shades) l.worklist.items;
      good : OnTrue l.is_good (IsGood l.edges l.yielded);
    }
