use Rattle.std.proofs.Common.{true, false, sym, ◌∙◌}
use Rattle.sqz_facts.proofs.RangeLemmas.{filter_map-none, filter_map-some}
use Rattle.sqz_strict.specs.Sets.{array_at}
use Rattle.sqz_strict.proofs.SetLemmas.{array_at-mark}
use Rattle.sqz_strict.proofs.associations.arrays_of.Goals as goal
use Rattle.sqz_strict.proofs.associations.arrays_of.Goals.{then-has+in-Some+in_ok-push, then-has+in_default, else-has}

pub loop-object-preserved : goal.loop-object-preserved
loop-object-preserved c =
    let memory = c.args.heap.now in
    let pools = c.args.pools.now in
    let object = c.loop-object.object in
    let report = array_at memory pools in
    elim c.if-has.branch [
      | then-has+in-Some+in_ok-push w ↦
          rw (w.found-is, w.in_ok-push.ensures.items, c.loop-object.invariant)
          (sym (filter_map-some report object _
          (array_at-mark memory pools object true (sym c.has.ensures ∙ w.if-has.true) ∙ sym w.in-Some.ensures.named)))
      | then-has+in_default w ↦
          rw (w.found-is, c.loop-object.invariant)
          (sym (filter_map-none report object
          (array_at-mark memory pools object true (sym c.has.ensures ∙ w.if-has.true) ∙ (sym w.target.ensures.named ∙ w.in_default.is))))
      | else-has w ↦
          rw (w.found-is, c.loop-object.invariant)
          (sym (filter_map-none report object (array_at-mark memory pools object false (sym c.has.ensures ∙ w.if-has.false))))
    ]
