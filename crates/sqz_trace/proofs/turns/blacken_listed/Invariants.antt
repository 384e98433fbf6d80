use Rattle.std.proofs.Common.{◌≡◌}
use Rattle.std.specs.Prelude.{vec_capacity}
use Rattle.sqz_trace.specs.Edges.{IsTargetAmong}
use Rattle.sqz_trace.specs.Greying.{Greys, IsListed}
use Rattle.sqz_trace.proofs.turns.blacken_listed.Given as goal

abbrev pub invariant-loop-slot : goal.invariant-loop-slot
invariant-loop-slot l =
    record {
      greyed : Greys (IsTargetAmong l.edges l.yielded) l.fn.shades l.shades;
      listed : IsListed l.fn.shades l.shades l.fn.list.items l.list.items;
      capacity : vec_capacity l.list ≡ vec_capacity l.fn.list;
    }
