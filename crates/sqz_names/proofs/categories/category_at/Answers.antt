use Rattle.std.proofs.Common.{◌∙◌, leb, ℕ, List, rules}
use Rattle.std.proofs.lemmas.List.Sorted.{IsPartitionedBy-leb, IsPartitionPoint-from_clause}
use Rattle.sqz_names.proofs.CategoryLemmas.{category_at-point}
use Rattle.sqz_names.proofs.categories.category_at.Goals as goal

pub returns : goal.returns
returns c =
    let ends : List ℕ = c.args.ends.now in
    let place : ℕ = c.args.place in
    let parted = IsPartitionedBy-leb (λ end. end) ends place c.requires.in_order in
    let point = IsPartitionPoint-from_clause (λ end. leb end place) ends _ c.partition_point-category.ensures.partitioned parted (λ a r q k. search rules) in
    c.then_some.ensures ∙ category_at-point ends place _ c.partition_point-category.ensures.bound point
