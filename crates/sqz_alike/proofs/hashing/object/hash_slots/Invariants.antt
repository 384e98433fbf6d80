use Rattle.sqz_alike.specs.Hashing.{AreSlotsHashed}
use Rattle.sqz_alike.proofs.hashing.object.hash_slots.Given as goal

abbrev pub invariant-loop-index : goal.invariant-loop-index
invariant-loop-index l = AreSlotsHashed l.live l.object l.index l.fn.walk l.walk l.fn.hasher l.hasher
