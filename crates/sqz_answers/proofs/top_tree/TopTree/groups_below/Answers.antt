use Rattle.std.proofs.Common.{◌∙◌, ◌<◌, ℕ, All, ap, length, subst, sym, arith}
use Rattle.std.specs.List.{filter}
use Rattle.std.proofs.lemmas.List.Elements.{All-filter}
use Rattle.std.proofs.lemmas.List.Sums.{length-filter, count_by-le-length}
use Rattle.sqz_image.specs.Objects.{object_count}
use Rattle.sqz_answers.specs.TopRows.{is_smaller}
use Rattle.sqz_answers.proofs.LevelLemmas.{below-objects, below-count}
use Rattle.sqz_answers.proofs.top_tree.TopTree.groups_below.Goals as goal

pub group_counts-requires-clause-few : goal.group_counts-requires-clause-few
group_counts-requires-clause-few c =
    let top = c.args.self.now in
    let level = c.in_ok-level.level in
    let below = level.below.items in
    let few = below-count top.graph.heap.now top.graph.weak top.dominators.now top.parts.now c.requires.tree.dominators c.args.object
    level.own below c.in_ok-level.ensures.is in
    let test = is_smaller top.dominators.now top.limits in
    let are = ap length (c.deref-2.ensures.value ∙ c.in_ok-smaller.ensures ∙ ap (filter test) c.deref.ensures.value) in
    omega (arith, few, are, length-filter test below, count_by-le-length test below, c.requires.tree.few)

pub group_counts-requires-clause-inside : goal.group_counts-requires-clause-inside
group_counts-requires-clause-inside c =
    let top = c.args.self.now in
    let level = c.in_ok-level.level in
    let below = level.below.items in
    let test = is_smaller top.dominators.now top.limits in
    let Inside : ℕ → Type 0 = λ object. object < object_count top.graph.heap.now in
    subst (All Inside) (sym (c.deref-2.ensures.value ∙ c.in_ok-smaller.ensures ∙ ap (filter test) c.deref.ensures.value))
    (All-filter test Inside below
    (below-objects top.graph.heap.now top.graph.weak top.dominators.now top.parts.now c.requires.tree.dominators c.args.object
    level.own below c.in_ok-level.ensures.is))
