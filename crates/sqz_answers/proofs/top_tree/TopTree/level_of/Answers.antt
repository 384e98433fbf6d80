use Rattle.std.proofs.Common.{◌≡◌, ◌*◌, ◌∙◌, ap, length, arith}
use Rattle.std.specs.Prelude.{sum_by}
use Rattle.sqz_image.specs.Objects.{chunk_words}
use Rattle.sqz_answers.proofs.LevelLemmas.{IsLevel-sorted}
use Rattle.sqz_answers.proofs.SplitLemmas.{parts-inside, parts-few}
use Rattle.sqz_answers.proofs.top_tree.TopTree.level_of.Goals as goal

pub own_bytes-own-requires-clause-few : goal.own_bytes-own-requires-clause-few
own_bytes-own-requires-clause-few c =
    let top = c.args.self.now in
    let split = c.in_ok-split.split in
    let few = parts-few top.graph.heap.now top.graph.weak top.dominators.now top.parts.now c.requires.tree.dominators top.children.now
    c.requires.tree.children c.args.object (length split.parts.items) split.parts.items split.below.items c.in_ok-split.ensures c.requires.inside in
    let same : length c.deref.result.now ≡ length split.parts.items = ap length c.deref.ensures.value in
    omega (arith, few, same, c.requires.tree.few)

pub own_bytes-own-requires-clause-inside : goal.own_bytes-own-requires-clause-inside
own_bytes-own-requires-clause-inside c =
    let top = c.args.self.now in
    let split = c.in_ok-split.split in
    rw c.deref.ensures.value
    (parts-inside top.graph.heap.now top.graph.weak top.dominators.now top.parts.now c.requires.tree.dominators top.children.now
    c.requires.tree.children c.args.object (length split.parts.items) split.parts.items split.below.items c.in_ok-split.ensures c.requires.inside)

pub returns : goal.returns
returns c =
    let top = c.args.self.now in
    let memory = top.graph.heap.now in
    let split = c.in_ok-split.split in
    let done = c.in_ok-below.ensures in
    record {
      value = c.held_value-value.ensures;
      is = IsLevel-sorted memory top.dominators.now top.parts.now c.args.object split.parts.items split.below.items c.in_ok-split.ensures
          c.own_bytes-own.result c.in_ok-below.below.items
          (c.own_bytes-own.ensures ∙ ap (λ parts. 4 * sum_by (λ part. length (chunk_words memory part)) parts) c.deref.ensures.value)
          (rw c.deref-2.ensures.value at done.permutation) done.sorted;
    }
