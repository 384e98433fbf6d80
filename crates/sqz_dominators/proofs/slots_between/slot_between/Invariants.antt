use Rattle.sqz_trace.specs.Edges.{IsTargetAmong}
use Rattle.sqz_dominators.proofs.slots_between.slot_between.Given as goal

abbrev pub invariant-loop-slot : goal.invariant-loop-slot
invariant-loop-slot l = IsTargetAmong l.edges l.yielded l.to → ⊥
