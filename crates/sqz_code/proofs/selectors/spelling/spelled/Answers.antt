use Rattle.std.proofs.Common.{◌≡◌, ◌<◌, true, arith}
use Rattle.std.proofs.lemmas.List.Elements.{All-push}
use Rattle.sqz_image.specs.Objects.{object_count}
use Rattle.sqz_names.specs.Structures.{HasText}
use Rattle.sqz_names.proofs.PickLemmas.{ArePicked-range-push, ArePicked-range-skip}
use Rattle.sqz_code.proofs.selectors.spelling.spelled.Goals.{then-branch+in_ok-push, else-branch}
use Rattle.sqz_code.proofs.selectors.spelling.spelled.Goals as goal

pub loop-object-preserved : goal.loop-object-preserved
loop-object-preserved c =
    let P = HasText c.args.heap.now c.args.text.now in
    let object = c.loop-object.object in
    let inside : object < object_count c.args.heap.now = omega (arith, c.loop-object-test.true, c.len-object-end.ensures.objects) in
    elim c.if-branch.branch [
      | then-branch+in_ok-push w ↦
          rw (w.found-is, w.in_ok-push.ensures.items) (
            ArePicked-range-push P object c.loop-object.found.items c.loop-object.invariant.0
                (c.in_ok-spells.ensures.sound w.if-branch.true),
            All-push (λ it. it < object_count c.args.heap.now) c.loop-object.found.items object c.loop-object.invariant.1 inside,
          )
      | else-branch w ↦
          rw w.found-is (
            ArePicked-range-skip P object c.loop-object.found.items c.loop-object.invariant.0
                (λ has. let yes : c.in_ok-spells.field-0 ≡ true = c.in_ok-spells.ensures.complete has in absurd cc),
            c.loop-object.invariant.1,
          )
    ]
