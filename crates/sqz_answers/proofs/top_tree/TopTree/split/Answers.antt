use Rattle.std.proofs.Common.{◌<◌, ◌∙◌, length, arith}
use Rattle.std.proofs.lemmas.List.{get_or_default}
use Rattle.sqz_answers.proofs.SplitLemmas.{IsSplit-start, IsSplit-next, parts-few}
use Rattle.sqz_answers.proofs.top_tree.TopTree.split.Goals as goal

pub loop-at-init : goal.loop-at-init
loop-at-init c =
    let top = c.args.self.now in
    rw (c.in_ok-push.ensures.items, c.new.ensures.items, c.new-2.ensures.items)
    (IsSplit-start top.graph.heap.now top.graph.weak top.dominators.now top.parts.now c.requires.tree.dominators
    top.children.now c.requires.tree.children c.args.object)

pub loop-at-smaller : goal.loop-at-smaller
loop-at-smaller c =
    let top = c.args.self.now in
    let there : c.loop-at.at < length c.loop-at.split.parts.items = omega (arith, c.loop-at-test.true, c.len.ensures, c.loop-at.split.parts.ok.0) in
    omega (
      arith,
      there,
      parts-few top.graph.heap.now top.graph.weak top.dominators.now top.parts.now c.requires.tree.dominators
          top.children.now c.requires.tree.children c.args.object c.loop-at.at c.loop-at.split.parts.items c.loop-at.split.below.items
          c.loop-at.invariant c.requires.inside,
    )

pub loop-at-preserved : goal.loop-at-preserved
loop-at-preserved c =
    let top = c.args.self.now in
    let parts = c.loop-at.split.parts.items in
    let there : c.loop-at.at < length c.loop-at.split.parts.items = omega (arith, c.loop-at-test.true, c.len.ensures, c.loop-at.split.parts.ok.0) in
    IsSplit-next top.graph.heap.now top.graph.weak top.dominators.now top.parts.now c.requires.tree.dominators
    top.children.now c.requires.tree.children c.args.object c.loop-at.at parts c.loop-at.split.below.items
    c.loop-at.invariant there c.index-part.result.now c.args.value _ _
    (c.index-part.ensures ∙ get_or_default parts c.loop-at.at c.index-part.result.now 0 there) c.requires.value
    c.in_ok-push_children.ensures.parts c.in_ok-push_children.ensures.below
