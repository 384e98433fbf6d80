use Rattle.std.proofs.Common.{◌≡◌, ◌++◌, true, false, sym, ap, ◌∙◌, arith}
use Rattle.std.specs.List.{flat_map, range_with_len}
use Rattle.std.proofs.lemmas.List.{append-nil}
use Rattle.sqz_image.specs.Objects.{object_count}
use Rattle.sqz_facts.proofs.RangeLemmas.{flat_map-next}
use Rattle.sqz_strict.specs.Sets.{elements_of, elements_at, element_list}
use Rattle.sqz_strict.proofs.SetLemmas.{elements_at-mark}
use Rattle.sqz_strict.proofs.associations.elements_in.Goals as goal
use Rattle.sqz_strict.proofs.associations.elements_in.Goals.{then-has+in_ok-push_elements, else-has}

pub loop-object-preserved : goal.loop-object-preserved
loop-object-preserved c =
    let memory = c.args.heap.now in
    let arrays = c.args.arrays.now in
    let object = c.loop-object.object in
    let here = elements_at memory arrays in
    let before = flat_map here (range_with_len 0 object) in
    elim c.if-has.branch [
      | then-has+in_ok-push_elements w ↦
          rw w.found-is
          (w.in_ok-push_elements.ensures
          ∙ ap (λ items. items ++ elements_of memory object) c.loop-object.invariant
          ∙ ap (λ last. before ++ last) (sym (elements_at-mark memory arrays object true (sym c.has.ensures ∙ w.if-has.true)))
          ∙ sym (flat_map-next here object))
      | else-has w ↦
          rw w.found-is
          (c.loop-object.invariant
          ∙ sym (append-nil before)
          ∙ ap (λ last. before ++ last) (sym (elements_at-mark memory arrays object false (sym c.has.ensures ∙ w.if-has.false)))
          ∙ sym (flat_map-next here object))
    ]

pub returns : goal.returns
returns c =
    let end : c.loop-object.object ≡ object_count c.args.heap.now =
    omega (arith, c.loop-object-test.false, c.loop-object.auto.object-end, c.len-object-end.ensures.objects)
    in
    let items : c.deref.result.now ≡ element_list c.args.heap.now c.args.arrays.now =
    c.deref.ensures.value ∙ (rw end at c.loop-object.invariant) in
    rw items at c.in_ok-set.ensures
