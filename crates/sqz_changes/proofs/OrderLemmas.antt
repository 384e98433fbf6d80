-- The first differences of changes stand in the order of the differences that make them.
-- Serves `laws::firsts_are_in_order`.
use Rattle.std.proofs.Common.{◌≡◌, ℕ, Bool, true, false, cond, eqb, List, [], ◌∷◌, ◌++◌, ◌⊎◌, inl, inr}
use Rattle.std.proofs.Common.{refl, sym, ap, subst, append_assoc}
use Rattle.std.specs.Prelude.{slice_index_or}
use Rattle.std.specs.List.{filter}
use Rattle.std.proofs.lemmas.List.{append-nil}
use Rattle.sqz_changes.specs.declared.change.Change.{Change}
use Rattle.sqz_changes.specs.declared.place.Difference.{Difference}
use Rattle.sqz_changes.specs.Changes.{quiet_changes, shown_changes, with_difference, with_differences}
use Rattle.sqz_changes.specs.Compared.{Compared}
use Rattle.sqz_changes.specs.Differences.{differences, is_quiet, is_shown}
use Rattle.sqz_changes.specs.Laws.{AreInOrder, firsts}
use Rattle.sqz_changes.specs.Owners.{owners}
use Rattle.sqz_changes.proofs.TallyLemmas.{one_more}

-- ---- differences in the order of others

in_order-same : (xs : List Difference) → AreInOrder xs xs
in_order-same [] = tt
in_order-same (x ∷ xs) = inl (refl, in_order-same xs)

in_order-skip : (xs ys : List Difference) (y : Difference) → AreInOrder xs ys → AreInOrder xs (y ∷ ys)
in_order-skip [] ys y are = tt
in_order-skip (x ∷ xs) ys y are = inr are

-- one more among the others
in_order-insert : (xs before after : List Difference) (y : Difference) → AreInOrder xs (before ++ after) → AreInOrder xs (before ++ y ∷ after)
in_order-insert xs [] after y are = in_order-skip xs after y are
in_order-insert [] (z ∷ before) after y are = tt
in_order-insert (x ∷ xs) (z ∷ before) after y are =
    elim are [
      | inl here ↦ inl (here.0, in_order-insert xs before after y here.1)
      | inr later ↦ inr (in_order-insert (x ∷ xs) before after y later)
    ]

-- in the order of some of the others
in_order-filter : (p : Difference → Bool) (xs ys : List Difference) → AreInOrder xs (filter p ys) → AreInOrder xs ys
in_order-filter p xs [] are = are
in_order-filter p xs (y ∷ ys) are = by (p y) xs are (λ zs. in_order-filter p zs ys)
  where
    by : (b : Bool) (xs : List Difference) → AreInOrder xs (cond b (y ∷ filter p ys) (filter p ys))
        → ((zs : List Difference) → AreInOrder zs (filter p ys) → AreInOrder zs ys) → AreInOrder xs (y ∷ ys)
    by false xs are rest = in_order-skip xs ys y (rest xs are)
    by true [] are rest = tt
    by true (x ∷ xs) are rest =
        elim are [
          | inl here ↦ inl (here.0, rest xs here.1)
          | inr later ↦ inr (rest (x ∷ xs) later)
        ]

-- ---- the first differences of changes

-- one more difference is the first of a new change, or of none
firsts-more : (owner : ℕ) (difference : Difference) (changes : List Change)
    → (firsts (with_difference owner difference changes) ≡ firsts changes)
    ⊎ (firsts (with_difference owner difference changes) ≡ firsts changes ++ difference ∷ [])
firsts-more owner difference [] = inr refl
firsts-more owner difference (change ∷ changes) = by (eqb change.owner owner) (firsts-more owner difference changes)
  where
    by : (b : Bool)
        → (firsts (with_difference owner difference changes) ≡ firsts changes)
        ⊎ (firsts (with_difference owner difference changes) ≡ firsts changes ++ difference ∷ [])
        → (firsts (cond b (one_more change ∷ changes) (change ∷ with_difference owner difference changes)) ≡ change.first ∷ firsts changes)
        ⊎ (firsts (cond b (one_more change ∷ changes) (change ∷ with_difference owner difference changes)) ≡ change.first ∷ firsts changes ++ difference ∷ [])
    by true rest = inl refl
    by false rest =
        elim rest [
          | inl same ↦ inl (ap (λ (xs : List Difference). change.first ∷ xs) same)
          | inr new ↦ inr (ap (λ (xs : List Difference). change.first ∷ xs) new)
        ]

module _ (owners : List ℕ) where
  firsts-in_order : (differences : List Difference) (changes : List Change)
      → AreInOrder (firsts (with_differences owners changes differences)) (firsts changes ++ differences)
  firsts-in_order [] changes = subst (AreInOrder (firsts changes)) (sym (append-nil (firsts changes))) (in_order-same (firsts changes))
  firsts-in_order (difference ∷ differences) changes =
      by (firsts-more (slice_index_or owners difference.pair 0) difference changes)
      (firsts-in_order differences (with_difference (slice_index_or owners difference.pair 0) difference changes))
    where
      by : (firsts (with_difference (slice_index_or owners difference.pair 0) difference changes) ≡ firsts changes)
          ⊎ (firsts (with_difference (slice_index_or owners difference.pair 0) difference changes) ≡ firsts changes ++ difference ∷ [])
          → AreInOrder (firsts (with_differences owners changes (difference ∷ differences)))
          (firsts (with_difference (slice_index_or owners difference.pair 0) difference changes) ++ differences)
          → AreInOrder (firsts (with_differences owners changes (difference ∷ differences))) (firsts changes ++ difference ∷ differences)
      by (inl same) are =
          in_order-insert (firsts (with_differences owners changes (difference ∷ differences))) (firsts changes) differences difference
          (subst (λ (xs : List Difference). AreInOrder (firsts (with_differences owners changes (difference ∷ differences))) (xs ++ differences)) same are)
      by (inr new) are =
          subst (AreInOrder (firsts (with_differences owners changes (difference ∷ differences)))) (append_assoc (firsts changes) (difference ∷ []) differences)
          (subst (λ (xs : List Difference). AreInOrder (firsts (with_differences owners changes (difference ∷ differences))) (xs ++ differences)) new are)

pub shown-in_order : (c : Compared) → AreInOrder (firsts (shown_changes c)) (differences c)
shown-in_order c =
    in_order-filter (is_shown c) (firsts (shown_changes c)) (differences c) (firsts-in_order (owners c) (filter (is_shown c) (differences c)) [])

pub quiet-in_order : (c : Compared) → AreInOrder (firsts (quiet_changes c)) (differences c)
quiet-in_order c =
    in_order-filter (is_quiet c) (firsts (quiet_changes c)) (differences c) (firsts-in_order (owners c) (filter (is_quiet c) (differences c)) [])
