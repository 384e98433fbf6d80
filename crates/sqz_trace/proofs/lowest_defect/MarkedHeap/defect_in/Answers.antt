use Rattle.std.proofs.Common.{sym, ap, ◌∙◌}
use Rattle.std.specs.Prelude.{is_some}
use Rattle.sqz_trace.specs.Ranges.{defect_at}
use Rattle.sqz_trace.proofs.FirstDefectLemmas.{first_between-found, first_between-next, defect_at-marked}
use Rattle.sqz_trace.proofs.FirstDefectLemmas.{defect_at-unmarked, none_found}
use Rattle.sqz_trace.proofs.lowest_defect.MarkedHeap.defect_in.Goals as goal
use Rattle.sqz_trace.proofs.lowest_defect.MarkedHeap.defect_in.Goals.{then-has+else-is_some, else-has}

pub returns-then-is_some : goal.returns-then-is_some
returns-then-is_some c =
    let memory = c.args.self.now.heap.now in
    let reported =
    defect_at-marked memory c.args.self.now.weak c.args.self.now.marks.now c.loop-object.object (sym c.has.ensures ∙ c.if-has.true)
    ∙ sym c.defect-found.ensures in
    let found = ap is_some reported ∙ sym c.is_some.ensures ∙ c.if-is_some.true in
    sym
    (c.loop-object.invariant
    ∙ first_between-found (defect_at memory c.args.self.now.weak c.args.self.now.marks.now) c.loop-object.object c.args.to c.loop-object-test.true found
    ∙ reported)

pub loop-object-preserved : goal.loop-object-preserved
loop-object-preserved c =
    let memory = c.args.self.now.heap.now in
    let next = first_between-next (defect_at memory c.args.self.now.weak c.args.self.now.marks.now) c.loop-object.object c.args.to c.loop-object-test.true in
    c.loop-object.invariant
    ∙ next
    (elim c.if-has.branch [
      | then-has+else-is_some w ↦
          defect_at-marked memory c.args.self.now.weak c.args.self.now.marks.now c.loop-object.object (sym c.has.ensures ∙ w.if-has.true)
          ∙ sym w.defect-found.ensures
          ∙ none_found w.defect-found.result (sym w.is_some.ensures ∙ w.if-is_some.false)
      | else-has w ↦ defect_at-unmarked memory c.args.self.now.weak c.args.self.now.marks.now c.loop-object.object (sym c.has.ensures ∙ w.if-has.false)
    ])
