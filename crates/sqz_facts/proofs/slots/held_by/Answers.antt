use Rattle.sqz_facts.proofs.HeldLemmas.{PointsBelow-found}
use Rattle.sqz_facts.proofs.slots.held_by.Goals as goal

pub returns-in-Pointer-clause-inside : goal.returns-in-Pointer-clause-inside
returns-in-Pointer-clause-inside c =
    rw c.held_at.ensures
    (PointsBelow-found c.args.heap.now c.args.weak c.in-Pointer.address c.find.result c.find.ensures)
