use Rattle.std.proofs.Common.{◌≡◌, sym, ◌∙◌, arith}
use Rattle.sqz_image.specs.Objects.{object_count}
use Rattle.sqz_trace.specs.Ranges.{defect_at}
use Rattle.sqz_trace.proofs.FirstDefectLemmas.{defect_at-marked, defect_at-unmarked}
use Rattle.sqz_facts.proofs.RangeLemmas.{filter_map-none, filter_map-some}
use Rattle.sqz_facts.proofs.all_defects.defects_of.Goals as goal
use Rattle.sqz_facts.proofs.all_defects.defects_of.Goals.{then-has+in-Some+in_ok-push, then-has+in_default, else-has}

pub loop-object-init : goal.loop-object-init
loop-object-init c = c.new-found.ensures.items

pub loop-object-preserved : goal.loop-object-preserved
loop-object-preserved c =
    let report = defect_at c.args.live.now.graph.heap.now c.args.live.now.graph.weak c.args.live.now.marks in
    let object = c.loop-object.object in
    let marked = defect_at-marked c.args.live.now.graph.heap.now c.args.live.now.graph.weak c.args.live.now.marks object in
    elim c.if-has.branch [
      | then-has+in-Some+in_ok-push w ↦
          rw (w.found-is, w.in_ok-push.ensures.items, c.loop-object.invariant)
          (sym (filter_map-some report object _ (marked (sym c.has.ensures ∙ w.if-has.true) ∙ sym w.in-Some.ensures)))
      | then-has+in_default w ↦
          rw (w.found-is, c.loop-object.invariant)
          (sym (filter_map-none report object
          (marked (sym c.has.ensures ∙ w.if-has.true) ∙ (sym w.defect.ensures ∙ w.in_default.is))))
      | else-has w ↦
          rw (w.found-is, c.loop-object.invariant)
          (sym (filter_map-none report object
          (defect_at-unmarked c.args.live.now.graph.heap.now c.args.live.now.graph.weak c.args.live.now.marks object (sym c.has.ensures ∙ w.if-has.false))))
    ]

pub returns : goal.returns
returns c =
    let end : c.loop-object.object ≡ object_count c.args.live.now.graph.heap.now =
    omega (arith, c.loop-object-test.false, c.loop-object.auto.object-end, c.len-object-end.ensures.objects)
    in
    rw end at c.loop-object.invariant
