use Rattle.std.proofs.Common.{true, false, sym, ◌∙◌}
use Rattle.sqz_facts.proofs.RangeLemmas.{filter_map-none, filter_map-some}
use Rattle.sqz_strict.specs.Sets.{class_at}
use Rattle.sqz_strict.proofs.SetLemmas.{class_at-mark}
use Rattle.sqz_strict.proofs.sets.classes_of.Goals as goal
use Rattle.sqz_strict.proofs.sets.classes_of.Goals.{then-has+in-Some+in_ok-push, then-has+in_default, else-has}

pub loop-object-preserved : goal.loop-object-preserved
loop-object-preserved c =
    let memory = c.args.live.now.graph.heap.now in
    let weak = c.args.live.now.graph.weak in
    let marks = c.args.live.now.marks in
    let object = c.loop-object.object in
    let report = class_at memory weak marks in
    elim c.if-has.branch [
      | then-has+in-Some+in_ok-push w ↦
          rw (w.found-is, w.in_ok-push.ensures.items, c.loop-object.invariant)
          (sym (filter_map-some report object _
          (class_at-mark memory weak marks object true (sym c.has.ensures ∙ w.if-has.true) ∙ sym w.in-Some.ensures.class)))
      | then-has+in_default w ↦
          rw (w.found-is, c.loop-object.invariant)
          (sym (filter_map-none report object
          (class_at-mark memory weak marks object true (sym c.has.ensures ∙ w.if-has.true) ∙ (sym w.class_of.ensures.class ∙ w.in_default.is))))
      | else-has w ↦
          rw (w.found-is, c.loop-object.invariant)
          (sym (filter_map-none report object
          (class_at-mark memory weak marks object false (sym c.has.ensures ∙ w.if-has.false))))
    ]
