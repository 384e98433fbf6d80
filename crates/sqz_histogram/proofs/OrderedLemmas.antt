-- A list in a strict order is determined by the elements that it contains.
-- Serves `SumLemmas` and `Uniqueness`.
use Rattle.std.proofs.Common.{◌≡◌, ℕ, zero, suc, ◌<◌, ◌⊎◌, List, [], ◌∷◌, length, slice_index_or, refl, sym, subst}
use Rattle.std.proofs.Common.{◌∙◌, inl, inr, arith}
use Rattle.std.specs.List.{Contains}

module _ {A : Type 0} where
  -- an element of a list is its first one, or one of the others
  pub Contains-cons_cases : (x : A) (xs : List A) (y : A) → Contains (x ∷ xs) y → (x ≡ y) ⊎ Contains xs y
  Contains-cons_cases x xs y (zero, within, is) = inl is
  Contains-cons_cases x xs y (suc k, within, is) = inr (k, omega arith, is)

  pub Contains-head : (x : A) (xs : List A) → Contains (x ∷ xs) x
  Contains-head x xs = (0, omega arith, refl)

  pub Contains-tail : (x : A) (xs : List A) (y : A) → Contains xs y → Contains (x ∷ xs) y
  Contains-tail x xs y (k, within, is) = (suc k, omega arith, is)

  pub Contains-nil : (y : A) → Contains [] y → ⊥
  Contains-nil y (k, within, is) = absurd (omega arith)

-- each element is before those behind it
abbrev pub IsOrdered : {A : Type 0} → (A → A → Type 0) → List A → Type 0
IsOrdered {A} IsBefore xs =
    (i j : ℕ) (d : A) → i < j → j < length xs → IsBefore (slice_index_or xs i d) (slice_index_or xs j d)

module _ {A : Type 0} (IsBefore : A → A → Type 0) where
  -- the first element is before each of the others
  pub first_before : (x : A) (xs : List A) (y : A) → IsOrdered IsBefore (x ∷ xs) → Contains xs y → IsBefore x y
  first_before x xs y ordered (k, within, is) = subst (IsBefore x) is (ordered 0 (suc k) y (omega arith) (omega arith))

  pub IsOrdered-tail : (x : A) (xs : List A) → IsOrdered IsBefore (x ∷ xs) → IsOrdered IsBefore xs
  IsOrdered-tail x xs ordered i j d below within = ordered (suc i) (suc j) d (omega arith) (omega arith)

module _ {A : Type 0} (IsBefore : A → A → Type 0) (never_itself : (x : A) → IsBefore x x → ⊥)
    (joins : (x y z : A) → IsBefore x y → IsBefore y z → IsBefore x z) where
  -- two lists with the same elements begin with the same one
  same_first : (x : A) (xs : List A) (y : A) (ys : List A) → IsOrdered IsBefore (x ∷ xs) → IsOrdered IsBefore (y ∷ ys)
      → Contains (y ∷ ys) x → Contains (x ∷ xs) y → x ≡ y
  same_first x xs y ys one other left right = by (Contains-cons_cases y ys x left) (Contains-cons_cases x xs y right)
    where
      by : (y ≡ x) ⊎ Contains ys x → (x ≡ y) ⊎ Contains xs y → x ≡ y
      by (inl same) at = sym same
      by (inr behind) (inl same) = same
      by (inr behind) (inr after) =
          absurd (never_itself x (joins x y x (first_before IsBefore x xs y one after) (first_before IsBefore y ys x other behind)))

  -- the others of the one are among the others of the other
  tail_within : (x : A) (xs : List A) (y : A) (ys : List A) → IsOrdered IsBefore (x ∷ xs) → x ≡ y
      → ((z : A) → Contains (x ∷ xs) z → Contains (y ∷ ys) z) → (z : A) → Contains xs z → Contains ys z
  tail_within x xs y ys one same each z within = by (Contains-cons_cases y ys z (each z (Contains-tail x xs z within)))
    where
      by : (y ≡ z) ⊎ Contains ys z → Contains ys z
      by (inl first) = absurd (never_itself z (subst (λ (w : A). IsBefore w z) (same ∙ first) (first_before IsBefore x xs z one within)))
      by (inr behind) = behind

  -- two lists in order with the same elements are one
  pub IsOrdered-unique : (xs ys : List A) → IsOrdered IsBefore xs → IsOrdered IsBefore ys
      → ((z : A) → Contains xs z → Contains ys z) → ((z : A) → Contains ys z → Contains xs z) → xs ≡ ys
  IsOrdered-unique [] [] one other each back = refl
  IsOrdered-unique [] (y ∷ ys) one other each back = absurd (Contains-nil y (back y (Contains-head y ys)))
  IsOrdered-unique (x ∷ xs) [] one other each back = absurd (Contains-nil x (each x (Contains-head x xs)))
  IsOrdered-unique (x ∷ xs) (y ∷ ys) one other each back =
      let same : x ≡ y = same_first x xs y ys one other (each x (Contains-head x xs)) (back y (Contains-head y ys)) in
      let others : xs ≡ ys =
      IsOrdered-unique xs ys (IsOrdered-tail IsBefore x xs one) (IsOrdered-tail IsBefore y ys other)
      (tail_within x xs y ys one same each) (tail_within y ys x xs other (sym same) back)
      in
      cc
