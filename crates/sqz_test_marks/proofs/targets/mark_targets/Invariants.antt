use Rattle.sqz_image.specs.Objects.{object_count}
use Rattle.sqz_trace.specs.Edges.{IsTargetAmong}
use Rattle.sqz_test_marks.specs.Passes.{ClaimsTargets, KeepsSeenIn}
use Rattle.sqz_test_marks.proofs.targets.mark_targets.Given as goal

abbrev pub invariant-loop-slot : goal.invariant-loop-slot
invariant-loop-slot l =
    record {
      claims : ClaimsTargets (IsTargetAmong l.edges l.yielded) l.fn.pass l.pass;
      listed : KeepsSeenIn (object_count l.table.heap.memory) l.fn.pass l.pass l.fn.won.items l.won.items;
    }
