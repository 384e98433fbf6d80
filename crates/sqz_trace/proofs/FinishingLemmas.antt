-- How much is left to mark while a marking is finished.
-- Serves `finishing::finish`.
use Rattle.std.proofs.Common.{◌≡◌, ℕ, zero, suc, ◌+◌, ◌-◌, ◌*◌, ◌<◌, List, [], ◌∷◌, length, refl, sym, ap, ◌∙◌, arith, inl, inr}
use Rattle.std.proofs.Math.Nat.{add-mul}
use Rattle.sqz_trace.specs.declared.shades.Shade.{Shade}
use Rattle.sqz_trace.specs.declared.shades.Shade.TheVariants.{White, Grey, Black}
use Rattle.sqz_trace.specs.Shades.{shade_at}
use Rattle.sqz_trace.specs.Greying.{Blackens}

-- how many objects are not black
abbrev weight : Shade → ℕ
weight White = 1
weight Grey = 1
weight Black = 0

abbrev pub unfinished_count : List Shade → ℕ
unfinished_count [] = 0
unfinished_count (shade ∷ shades) = weight shade + unfinished_count shades

-- the same where each object weighs the same
unfinished-same : (old new : List Shade) → length new ≡ length old
    → ((index : ℕ) → weight (shade_at new index) ≡ weight (shade_at old index)) → unfinished_count new ≡ unfinished_count old
unfinished-same [] [] sized same = refl
unfinished-same [] (shade ∷ new) sized same = absurd (omega arith)
unfinished-same (was ∷ old) [] sized same = absurd (omega arith)
unfinished-same (was ∷ old) (shade ∷ new) sized same =
    omega (arith, same 0, unfinished-same old new (omega arith) (λ index. same (suc index)))

-- one less where one object became black
unfinished-one : (object : ℕ) (old new : List Shade) → length new ≡ length old → object < length old
    → weight (shade_at old object) ≡ 1 → weight (shade_at new object) ≡ 0
    → ((index : ℕ) → (index ≡ object → ⊥) → weight (shade_at new index) ≡ weight (shade_at old index))
    → unfinished_count new + 1 ≡ unfinished_count old
unfinished-one object [] new sized lt was is same = absurd (omega arith)
unfinished-one object (before ∷ old) [] sized lt was is same = absurd (omega arith)
unfinished-one zero (before ∷ old) (shade ∷ new) sized lt was is same =
    omega (arith, was, is, unfinished-same old new (omega arith) (λ index. same (suc index) (λ e. absurd (omega arith))))
unfinished-one (suc object) (before ∷ old) (shade ∷ new) sized lt was is same =
    omega (
      arith,
      same 0 (λ e. absurd (omega arith)),
      unfinished-one object old new (omega arith) (omega arith) was is
          (λ index differs. same (suc index) (λ e. differs (omega arith))),
    )

-- an object that became black is one less to do
pub unfinished-blackened : (IsEdge : ℕ → Type 0) (object : ℕ) (old new : List Shade) → object < length old → shade_at old object ≡ Grey
    → Blackens IsEdge object old new → unfinished_count new + 1 ≡ unfinished_count old
unfinished-blackened IsEdge object old new lt grey step =
    unfinished-one object old new step.sized lt (ap weight grey) (ap weight step.black)
    (λ index differs.
    elim (step.only index) [
      | inl same ↦ absurd (differs same)
      | inr (inl same) ↦ ap weight same
      | inr (inr (edge, white, now)) ↦ ap weight now ∙ sym (ap weight white)
    ])

-- one less to do counts for more than going back
pub less_to_do : (count new old object next : ℕ) → new + 1 ≡ old
    → new * (count + 1) + (count - next) < old * (count + 1) + (count - object)
less_to_do count new old object next is =
    let product : (new + 1) * (count + 1) ≡ new * (count + 1) + 1 * (count + 1) = add-mul new 1 (count + 1) in
    rw (← is) (omega (arith, product))
