-- How often an object occurs in a list.
-- Serves `EventLemmas`, `RunLemmas`, `StepLemmas` and `ViewLemmas`; `scanning::scan_if_grey`,
-- `scanning::scan_object`, `GainLemmas`, `RemainingLemmas` and `ShareLemmas` of `sqz_workers`;
-- `PassLemmas` of `sqz_test_marks`.
use Rattle.std.proofs.Common.{◌≡◌, ◌≢◌, ◌⊎◌, ℕ, zero, suc, ◌+◌, ◌<◌, ◌≤◌, List, ◌∷◌, ◌++◌}
use Rattle.std.proofs.Common.{eqb, cond, refl, sym, subst, ◌∙◌, arith, inl, inr, eq-eqb, ne_eqb}
use Rattle.std.proofs.lemmas.Bool.{cases_eq}
use Rattle.std.proofs.lemmas.List.Sums.{sum_by-cons, sum_by-append}
use Rattle.sqz_marks.specs.Core.{times}

-- a number that is not above 0
pub zero-if_never : (number : ℕ) → (0 < number → ⊥) → number ≡ 0
zero-if_never zero never = refl
zero-if_never (suc number) never = absurd (never (omega arith))

module _ (object : ℕ) where
  -- an object more
  pub times-same : (list : List ℕ) → times object (object ∷ list) ≡ 1 + times object list
  times-same list =
      subst (λ b. times object (object ∷ list) ≡ cond b 1 0 + times object list) (eq-eqb object object refl)
      (sum_by-cons (λ other. cond (eqb other object) 1 0) object list)

  pub times-other : (other : ℕ) (list : List ℕ) → object ≢ other → times object (other ∷ list) ≡ times object list
  times-other other list differs =
      subst (λ b. times object (other ∷ list) ≡ cond b 1 0 + times object list) (ne_eqb other object (λ e. differs (sym e)))
      (sum_by-cons (λ other. cond (eqb other object) 1 0) other list) ∙ omega arith

  pub times-more : (other : ℕ) (list : List ℕ) → times object list ≤ times object (other ∷ list)
  times-more other list =
      elim (cases_eq object other) [
        | inl same ↦ subst (λ (o : ℕ). times object list ≤ times object (o ∷ list)) same (omega (arith, times-same list))
        | inr differs ↦ omega (arith, times-other other list differs)
      ]

  -- it is the object that was added, or it stood there
  pub times-either : (other : ℕ) (list : List ℕ) → 0 < times object (other ∷ list) → (object ≡ other) ⊎ (0 < times object list)
  times-either other list some =
      elim (cases_eq object other) [
        | inl same ↦ inl same
        | inr differs ↦ inr (omega (arith, times-other other list differs))
      ]

  -- two lists
  pub times-append : (list more : List ℕ) → times object (list ++ more) ≡ times object list + times object more
  times-append list more = sum_by-append (λ other. cond (eqb other object) 1 0) list more

  pub times-in_two : (list more : List ℕ) → 0 < times object (list ++ more) → (0 < times object list) ⊎ (0 < times object more)
  times-in_two list more some = by_count (times object list) refl
    where
      by_count : (count : ℕ) → times object list ≡ count → (0 < times object list) ⊎ (0 < times object more)
      by_count zero e = inr (omega (arith, times-append list more))
      by_count (suc count) e = inl (omega arith)
