-- The change of each owner.
-- Serves `laws::one_change_for_each_owner`.
use Rattle.std.proofs.Common.{◌≡◌, ◌+◌, ℕ, Bool, true, false, cond, eqb, List, [], ◌∷◌, ◌++◌}
use Rattle.std.proofs.Common.{refl, sym, ap, ◌∙◌, append_assoc}
use Rattle.std.specs.Prelude.{slice_index_or}
use Rattle.std.specs.List.{filter}
use Rattle.std.proofs.lemmas.Bool.{eq-eqb, eqb-true}
use Rattle.std.proofs.lemmas.List.{append-nil, length-append}
use Rattle.std.proofs.lemmas.List.Elements.{filter-append}
use Rattle.sqz_changes.specs.declared.change.Change.{Change}
use Rattle.sqz_changes.specs.declared.place.Difference.{Difference}
use Rattle.sqz_changes.specs.Changes.{changes_of, with_difference, with_differences}
use Rattle.sqz_changes.specs.Compared.{Compared}
use Rattle.sqz_changes.specs.Laws.{change_for, is_of, is_owned}
use Rattle.sqz_changes.specs.Owners.{owners}
use Rattle.sqz_changes.proofs.TallyLemmas.{one_more}

-- the changes of an owner after one more difference
abbrev more : ℕ → Difference → List Change → List Change
more owner difference [] = record { owner = owner; first = difference; count = 1 } ∷ []
more owner difference (change ∷ changes) = one_more change ∷ changes

module _ (owner : ℕ) (difference : Difference) where
  own : (changes : List Change) → filter (is_of owner) (with_difference owner difference changes) ≡ more owner difference (filter (is_of owner) changes)
  own [] =
      ap (λ (b : Bool). cond b (record { owner = owner; first = difference; count = 1 } ∷ []) []) (eq-eqb owner owner refl)
  own (change ∷ changes) = by (eqb change.owner owner) refl (own changes)
    where
      by : (b : Bool) → eqb change.owner owner ≡ b
          → filter (is_of owner) (with_difference owner difference changes) ≡ more owner difference (filter (is_of owner) changes)
          → filter (is_of owner) (cond (eqb change.owner owner) (one_more change ∷ changes) (change ∷ with_difference owner difference changes))
          ≡ more owner difference (cond (eqb change.owner owner) (change ∷ filter (is_of owner) changes) (filter (is_of owner) changes))
      by true e rest =
          ap (λ (b : Bool). filter (is_of owner) (cond b (one_more change ∷ changes) (change ∷ with_difference owner difference changes))) e
          ∙ ap (λ (b : Bool). cond b (one_more change ∷ filter (is_of owner) changes) (filter (is_of owner) changes)) e
          ∙ sym (ap (λ (b : Bool). more owner difference (cond b (change ∷ filter (is_of owner) changes) (filter (is_of owner) changes))) e)
      by false e rest =
          ap (λ (b : Bool). filter (is_of owner) (cond b (one_more change ∷ changes) (change ∷ with_difference owner difference changes))) e
          ∙ ap (λ (b : Bool). cond b (change ∷ filter (is_of owner) (with_difference owner difference changes)) (filter (is_of owner) (with_difference owner difference changes))) e
          ∙ rest
          ∙ sym (ap (λ (b : Bool). more owner difference (cond b (change ∷ filter (is_of owner) changes) (filter (is_of owner) changes))) e)

  module _ (other : ℕ) (apart : eqb owner other ≡ false) where
    others : (changes : List Change) → filter (is_of other) (with_difference owner difference changes) ≡ filter (is_of other) changes
    others [] = ap (λ (b : Bool). cond b (record { owner = owner; first = difference; count = 1 } ∷ []) []) apart
    others (change ∷ changes) = by (eqb change.owner owner) refl (others changes)
      where
        by : (b : Bool) → eqb change.owner owner ≡ b → filter (is_of other) (with_difference owner difference changes) ≡ filter (is_of other) changes
            → filter (is_of other) (cond (eqb change.owner owner) (one_more change ∷ changes) (change ∷ with_difference owner difference changes))
            ≡ cond (eqb change.owner other) (change ∷ filter (is_of other) changes) (filter (is_of other) changes)
        by true e rest =
            let miss : eqb change.owner other ≡ false = ap (λ (n : ℕ). eqb n other) (eqb-true change.owner owner e) ∙ apart in
            ap (λ (b : Bool). filter (is_of other) (cond b (one_more change ∷ changes) (change ∷ with_difference owner difference changes))) e
            ∙ ap (λ (b : Bool). cond b (one_more change ∷ filter (is_of other) changes) (filter (is_of other) changes)) miss
            ∙ sym (ap (λ (b : Bool). cond b (change ∷ filter (is_of other) changes) (filter (is_of other) changes)) miss)
        by false e rest =
            ap (λ (b : Bool). filter (is_of other) (cond b (one_more change ∷ changes) (change ∷ with_difference owner difference changes))) e
            ∙ ap (λ (xs : List Change). cond (eqb change.owner other) (change ∷ xs) xs) rest

-- one more difference of an owner
change_for-more : (owner : ℕ) (differences : List Difference) (difference : Difference)
    → change_for owner (differences ++ difference ∷ []) ≡ more owner difference (change_for owner differences)
change_for-more owner [] difference = refl
change_for-more owner (first ∷ others) difference =
    ap (λ (n : ℕ). record { owner = owner; first = first; count = n + 1 } ∷ []) (length-append others (difference ∷ []))

module _ (c : Compared) (owner : ℕ) where
  abbrev AreOf : List Difference → List Change → Type 0
  AreOf differences changes = filter (is_of owner) changes ≡ change_for owner (filter (is_owned c owner) differences)

  step : (before : List Difference) (difference : Difference) (changes : List Change) → AreOf before changes
      → AreOf (before ++ difference ∷ []) (with_difference (slice_index_or (owners c) difference.pair 0) difference changes)
  step before difference changes e = by (is_owned c owner difference) refl
    where
      by : (b : Bool) → is_owned c owner difference ≡ b
          → filter (is_of owner) (with_difference (slice_index_or (owners c) difference.pair 0) difference changes)
          ≡ change_for owner (filter (is_owned c owner) (before ++ difference ∷ []))
      by true is =
          let same = eqb-true (slice_index_or (owners c) difference.pair 0) owner is in
          ap (λ (n : ℕ). filter (is_of owner) (with_difference n difference changes)) same
          ∙ own owner difference changes
          ∙ ap (more owner difference) e
          ∙ sym (change_for-more owner (filter (is_owned c owner) before) difference)
          ∙ sym (ap (change_for owner) (filter-append (is_owned c owner) before (difference ∷ [])
          ∙ ap (λ (b : Bool). filter (is_owned c owner) before ++ cond b (difference ∷ []) []) is))
      by false is =
          others (slice_index_or (owners c) difference.pair 0) difference owner is changes
          ∙ e
          ∙ sym (ap (change_for owner) (filter-append (is_owned c owner) before (difference ∷ [])
          ∙ ap (λ (b : Bool). filter (is_owned c owner) before ++ cond b (difference ∷ []) []) is
          ∙ append-nil (filter (is_owned c owner) before)))

  all : (differences before : List Difference) (changes : List Change) → AreOf before changes
      → AreOf (before ++ differences) (with_differences (owners c) changes differences)
  all [] before changes e = e ∙ ap (λ (xs : List Difference). change_for owner (filter (is_owned c owner) xs)) (sym (append-nil before))
  all (difference ∷ differences) before changes e =
      all differences (before ++ difference ∷ []) (with_difference (slice_index_or (owners c) difference.pair 0) difference changes)
      (step before difference changes e)
      ∙ ap (λ (xs : List Difference). change_for owner (filter (is_owned c owner) xs)) (append_assoc before (difference ∷ []) differences)

pub one_change : (c : Compared) (differences : List Difference) (owner : ℕ)
    → filter (is_of owner) (changes_of c differences) ≡ change_for owner (filter (is_owned c owner) differences)
one_change c differences owner = all c owner differences [] [] refl
