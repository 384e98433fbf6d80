use Rattle.std.proofs.Common.{◌+◌}
use Rattle.sqz_trace.specs.Edges.{IsTargetAmong}
use Rattle.sqz_trace.specs.Greying.{Greys, IsLowest}
use Rattle.sqz_trace.proofs.finishing.blacken.Given as goal

abbrev pub invariant-loop-slot : goal.invariant-loop-slot
invariant-loop-slot l =
    record {
      greyed : Greys (IsTargetAmong l.edges l.yielded) l.fn.shades l.shades;
      lowest : IsLowest (l.object + 1) l.fn.shades l.shades l.lowest;
    }
