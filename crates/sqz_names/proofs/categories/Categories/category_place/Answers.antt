use Rattle.std.proofs.Common.{ap, sym, ◌∙◌, subst, List, ℕ}
use Rattle.std.specs.List.Sorted.{IsNonDecreasing}
use Rattle.std.specs.Prelude.{option_and_then}
use Rattle.sqz_names.specs.Categories.{category_at, category_ends}
use Rattle.sqz_names.proofs.CategoryLemmas.{category_at-maxima, maxima-ordered}
use Rattle.sqz_names.proofs.categories.Categories.category_place.Goals as goal

pub category_at-requires-clause-in_order : goal.category_at-requires-clause-in_order
category_at-requires-clause-in_order c =
    let ends = category_ends c.args.self.now.names.now.graph.heap.now c.args.self.now.organizer in
    subst IsNonDecreasing (sym (c.deref.ensures.value ∙ c.args.self.now.are_ends)) (maxima-ordered 0 ends)

pub returns : goal.returns
returns c =
    let ends : List ℕ = category_ends c.args.self.now.names.now.graph.heap.now c.args.self.now.organizer in
    let place : ℕ = c.in_ok-place.field-0.now in
    c.category_at.ensures ∙ ap (λ ends. category_at ends place) (c.deref.ensures.value ∙ c.args.self.now.are_ends)
    ∙ category_at-maxima place ends
    ∙ ap (option_and_then (category_at ends)) (c.in_ok-place.ensures.value ∙ c.args.self.now.are_places c.args.listed)
