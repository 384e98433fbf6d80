use Rattle.std.proofs.Common.{◌≡◌, ◌<◌, ◌∙◌, ◌+◌, ℕ, false, ap, sym, subst, arith, length, set}
use Rattle.std.specs.Prelude.{slice_index}
use Rattle.std.proofs.lemmas.List.{get_or_default}
use Rattle.sqz_image.specs.Objects.{object_count}
use Rattle.sqz_dominators.specs.declared.retained.Retained.{Retained}
use Rattle.sqz_dominators.specs.Children.{retained_bytes}
use Rattle.sqz_answers.proofs.TogetherLemmas.{IsSummed, IsSummed-none, IsSummed-skipped, IsSummed-added, AreRetainedByKeys-all}
use Rattle.sqz_answers.proofs.outermost.GroupedTree.retained_together.Goals as goal
use Rattle.sqz_answers.proofs.outermost.GroupedTree.retained_together.Goals.{then-index, else-index}

pub loop-object-init : goal.loop-object-init
loop-object-init c =
    let tree = c.args.self.now in
    let zeros = c.in_ok-sums.ensures.items_if_clones_equal (λ y same. same) in
    rw zeros (IsSummed-none tree.dominators.now tree.keys.now c.in_ok-outermost.outermost.items tree.bound)

pub loop-object-preserved : goal.loop-object-preserved
loop-object-preserved c =
    let tree = c.args.self.now in
    let object = c.loop-object.object in
    let marks = c.in_ok-outermost.outermost.items in
    let sums = c.loop-object.sums.items in
    let key = slice_index c.args.self.now.keys.now c.loop-object.object in
    let inside : c.loop-object.object < object_count c.args.self.now.graph.heap.now = omega (arith, c.loop-object-test.true, c.len-object-end.ensures.objects) in
    let marked : c.loop-object.object < length c.in_ok-outermost.outermost.items = omega (arith, inside, c.in_ok-outermost.ensures.are.sized) in
    let mark = get_or_default marks object false c.index.result.now marked ∙ sym c.index.ensures in
    elim c.if-index.branch [
      | then-index w ↦
          let low = c.requires.inside object 0 (omega (arith, inside, c.requires.sized)) in
          let there : slice_index c.args.self.now.keys.now c.loop-object.object < length c.loop-object.sums.items = omega (arith, low, c.loop-object.invariant.sized) in
          let before = w.index_mut.ensures.value ∙ get_or_default sums key w.index_mut.result.now 0 there in
          let more = ap (λ (retained : Retained). retained.bytes) w.retained.ensures in
          let value : w.index_mut.result.now + w.retained.result.bytes
          ≡ slice_index c.loop-object.sums.items (slice_index c.args.self.now.keys.now c.loop-object.object)
          + retained_bytes c.args.self.now.dominators.now c.loop-object.object =
          omega (arith, before, more)
          in
          rw w.sums-is
          (subst (λ (n : ℕ). IsSummed tree.dominators.now tree.keys.now marks tree.bound (object + 1) (set sums key n)) (sym value)
          (IsSummed-added tree.dominators.now tree.keys.now marks tree.bound object sums c.loop-object.invariant (mark ∙ w.if-index.true) low
          (c.requires.small object)))
      | else-index w ↦
          rw w.sums-is
          (IsSummed-skipped tree.dominators.now tree.keys.now marks tree.bound object c.loop-object.sums.items c.loop-object.invariant (mark ∙ w.if-index.false))
    ]

pub returns : goal.returns
returns c =
    let tree = c.args.self.now in
    let end : c.loop-object.object ≡ object_count c.args.self.now.graph.heap.now = omega (arith, c.loop-object-test.false, c.loop-object.auto.object-end, c.len-object-end.ensures.objects) in
    AreRetainedByKeys-all tree c.requires c.in_ok-outermost.outermost.items c.in_ok-outermost.ensures c.loop-object.sums.items
    (subst (λ (n : ℕ). IsSummed tree.dominators.now tree.keys.now c.in_ok-outermost.outermost.items tree.bound n c.loop-object.sums.items) end c.loop-object.invariant)
