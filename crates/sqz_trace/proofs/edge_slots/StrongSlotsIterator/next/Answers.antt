use Rattle.std.proofs.Common.{sym, ap, ◌∙◌, length, arith}
use Rattle.sqz_trace.proofs.TargetLemmas.{slots_from-class_word, slots_from-field}
use Rattle.sqz_trace.proofs.edge_slots.StrongSlotsIterator.next.Goals as goal
use Rattle.sqz_trace.proofs.edge_slots.StrongSlotsIterator.next.Goals.{in-ClassWord, in-Field}

pub returns-clause-steps : goal.returns-clause-steps
returns-clause-steps c =
    sym c.self.view_is
    ∙ elim c.match-slot.branch [
      | in-ClassWord w ↦ rw (w.slot-is, w.self-is, w.in-ClassWord.is) (slots_from-class_word c.self.inside.strong)
      | in-Field w ↦
          rw (w.slot-is, w.self-is, w.in-Field.is)
          (slots_from-field w.in-Field.index c.self.inside.strong w.if-index-self.true)
    ]

pub returns-clause-goes : goal.returns-clause-goes
returns-clause-goes c = omega (arith, ap length (returns-clause-steps c))
