use Rattle.std.proofs.Common.{true, false, sym, ◌∙◌}
use Rattle.sqz_facts.proofs.RangeLemmas.{filter_map-none, filter_map-some}
use Rattle.sqz_strict.specs.Sets.{held_at}
use Rattle.sqz_strict.proofs.SetLemmas.{held_at-class}
use Rattle.sqz_strict.proofs.sets.held_by_classes.Goals as goal
use Rattle.sqz_strict.proofs.sets.held_by_classes.Goals.{then-is_class+in-Some+in_ok-push, then-is_class+in_default, else-is_class}

pub loop-object-preserved : goal.loop-object-preserved
loop-object-preserved c =
    let memory = c.args.live.now.graph.heap.now in
    let weak = c.args.live.now.graph.weak in
    let marks = c.args.live.now.marks in
    let classes = c.args.classes.now in
    let object = c.loop-object.object in
    let report = held_at memory weak marks classes c.args.field in
    elim c.if-is_class.branch [
      | then-is_class+in-Some+in_ok-push w ↦
          rw (w.found-is, w.in_ok-push.ensures.items, c.loop-object.invariant)
          (sym (filter_map-some report object _
          (held_at-class memory weak marks object true classes c.args.field (sym c.is_class.ensures ∙ w.if-is_class.true) ∙ sym w.in-Some.ensures.named)))
      | then-is_class+in_default w ↦
          rw (w.found-is, c.loop-object.invariant)
          (sym (filter_map-none report object
          (held_at-class memory weak marks object true classes c.args.field (sym c.is_class.ensures ∙ w.if-is_class.true) ∙ (sym w.target.ensures.named ∙ w.in_default.is))))
      | else-is_class w ↦
          rw (w.found-is, c.loop-object.invariant)
          (sym (filter_map-none report object
          (held_at-class memory weak marks object false classes c.args.field (sym c.is_class.ensures ∙ w.if-is_class.false))))
    ]
