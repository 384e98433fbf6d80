use Rattle.std.proofs.Common.{◌≡◌, ◌∙◌, ◌⊎◌, inl, inr, List, ℕ, ap, sym}
use Rattle.sqz_object.specs.declared.layout.Layout.{Layout}
use Rattle.sqz_object.specs.declared.layout.Layout.TheVariants.{Bytes, Method}
use Rattle.sqz_object.specs.declared.order.Order.{Order}
use Rattle.sqz_object.specs.Layout.{layout}
use Rattle.sqz_alike.specs.Alike.{untraced}
use Rattle.sqz_alike.specs.Untraced.{same_bytes, same_untraced}
use Rattle.sqz_alike.proofs.WordLemmas.{untraced-matches}
use Rattle.sqz_alike.proofs.words.untraced_match.Goals as goal

module _ (kind found : Layout) (is : found ≡ kind) (order other_order : Order) (words others : List ℕ) where
  as-bytes : ((x : ℕ) × (found ≡ Bytes x)) ⊎ (found ≡ Method) → same_bytes order other_order words others ≡ same_untraced kind order other_order words others
  as-bytes (inl (x, e)) = sym (ap (λ (kind : Layout). same_untraced kind order other_order words others) (sym is ∙ e))
  as-bytes (inr e) = sym (ap (λ (kind : Layout). same_untraced kind order other_order words others) (sym is ∙ e))

pub returns-in-Bytes-clause-matches : goal.returns-in-Bytes-clause-matches
returns-in-Bytes-clause-matches c =
    let one : List ℕ = untraced c.args.object.now in
    let other : List ℕ = untraced c.args.other.now in
    let order : Order = c.args.order in
    let other_order : Order = c.args.other_order in
    untraced-matches c.bytes_match.result (layout c.args.object.now) order other_order one other
    (c.bytes_match.ensures
    ∙ ap (λ (words : List ℕ). same_bytes order other_order words c.untraced-others.result) c.untraced-words.ensures
    ∙ ap (same_bytes order other_order one) c.untraced-others.ensures
    ∙ as-bytes (layout c.args.object.now) c.layout.result c.layout.ensures order other_order one other c.in-Bytes.is)
