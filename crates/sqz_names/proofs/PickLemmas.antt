-- Lists that are picked from a list, item by item.
-- Serves `lookup`, `object_set` and `CategoryLemmas`; `picking` and `spelling` of `sqz_code`.
use Rattle.std.proofs.Common.{◌≡◌, ℕ, ◌+◌, ◌<◌, All, Contains, List, [], ◌∷◌, ◌++◌, length, take, get_or, refl, sym, ap, subst, ◌∙◌, inl, inr, arith}
use Rattle.std.specs.Prelude.{map}
use Rattle.std.specs.List.{range_with_len}
use Rattle.std.proofs.lemmas.List.{take_more}
use Rattle.std.proofs.lemmas.List.Elements.{All-cons, All-nil}
use Rattle.std.proofs.lemmas.List.Folds.{map_fixed}
use Rattle.std.proofs.lemmas.List.FromFn.{get_or-range_with_len, length-range_with_len, map-range_with_len_more}
use Rattle.sqz_histogram.proofs.OrderedLemmas.{Contains-cons_cases, Contains-head, Contains-tail}
use Rattle.sqz_names.specs.Picks.{ArePicked}

module _ {X : Type 0} (P : X → Type 0) (x : X) where
  -- one more item that is picked
  pub ArePicked-push : (xs picked : List X) → ArePicked P xs picked → P x → ArePicked P (xs ++ x ∷ []) (picked ++ x ∷ [])
  ArePicked-push [] picked are is = inl (is, ([], ap (λ (l : List X). l ++ x ∷ []) are, refl))
  ArePicked-push (y ∷ xs) picked (inl (has, (rest, same, are))) is =
      inl (has, (rest ++ x ∷ [], ap (λ (l : List X). l ++ x ∷ []) same, ArePicked-push xs rest are is))
  ArePicked-push (y ∷ xs) picked (inr (lacks, are)) is = inr (lacks, ArePicked-push xs picked are is)

  -- and one that is not
  pub ArePicked-skip : (xs picked : List X) → ArePicked P xs picked → (P x → ⊥) → ArePicked P (xs ++ x ∷ []) picked
  ArePicked-skip [] picked are is_not = inr (is_not, are)
  ArePicked-skip (y ∷ xs) picked (inl (has, (rest, same, are))) is_not = inl (has, (rest, same, ArePicked-skip xs rest are is_not))
  ArePicked-skip (y ∷ xs) picked (inr (lacks, are)) is_not = inr (lacks, ArePicked-skip xs picked are is_not)

-- the fact is true about each picked item
pub All-picked : {X : Type 0} (P : X → Type 0) (xs picked : List X) → ArePicked P xs picked → All P picked
All-picked {X} P [] picked are = subst (All P) (sym are) (All-nil P)
All-picked {X} P (x ∷ xs) picked (inl (is, (rest, same, are))) =
    subst (All P) (sym same) (All-cons P x rest is (All-picked P xs rest are))
All-picked {X} P (x ∷ xs) picked (inr (lacks, are)) = All-picked P xs picked are

-- facts that are true about the same items pick the same ones
pub ArePicked-same : {X : Type 0} (P Q : X → Type 0) → ((x : X) → P x → Q x) → ((x : X) → Q x → P x)
    → (xs picked : List X) → ArePicked P xs picked → ArePicked Q xs picked
ArePicked-same {X} P Q to back [] picked are = are
ArePicked-same {X} P Q to back (x ∷ xs) picked (inl (is, (rest, same, are))) =
    inl (to x is, (rest, same, ArePicked-same P Q to back xs rest are))
ArePicked-same {X} P Q to back (x ∷ xs) picked (inr (lacks, are)) =
    inr ((λ is. lacks (back x is)), ArePicked-same P Q to back xs picked are)

-- a fact that is true about no item picks none
pub ArePicked-none : {X : Type 0} (P : X → Type 0) → ((x : X) → P x → ⊥) → (xs : List X) → ArePicked P xs []
ArePicked-none {X} P never [] = refl
ArePicked-none {X} P never (x ∷ xs) = inr (never x, ArePicked-none P never xs)

-- an item about which the fact is true is picked
pub Contains-picked : {X : Type 0} (P : X → Type 0) (xs picked : List X) → ArePicked P xs picked
    → (x : X) → Contains xs x → P x → Contains picked x
Contains-picked {X} P [] picked are x (k, within, at) is = absurd (omega (arith, within))
Contains-picked {X} P (y ∷ xs) picked (inl (has, (rest, same, are))) x held is =
    subst (λ (l : List X). Contains l x) (sym same)
    (elim (Contains-cons_cases y xs x held) [
      | inl first ↦ subst (λ (it : X). Contains (y ∷ rest) it) first (Contains-head y rest)
      | inr behind ↦ Contains-tail y rest x (Contains-picked P xs rest are x behind is)
    ])
Contains-picked {X} P (y ∷ xs) picked (inr (lacks, are)) x held is =
    elim (Contains-cons_cases y xs x held) [
      | inl first ↦ absurd (lacks (subst P (sym first) is))
      | inr behind ↦ Contains-picked P xs picked are x behind is
    ]

-- the same of the first items of a list
module _ {X : Type 0} (P : X → Type 0) (xs : List X) (i : ℕ) (d : X) (inside : i < length xs) (picked : List X) (are : ArePicked P (take i xs) picked) where
  pub ArePicked-take-push : P (get_or xs i d) → ArePicked P (take (i + 1) xs) (picked ++ get_or xs i d ∷ [])
  ArePicked-take-push is =
      subst (λ (l : List X). ArePicked P l (picked ++ get_or xs i d ∷ [])) (sym (take_more xs i d inside))
      (ArePicked-push P (get_or xs i d) (take i xs) picked are is)

  pub ArePicked-take-skip : (P (get_or xs i d) → ⊥) → ArePicked P (take (i + 1) xs) picked
  ArePicked-take-skip is_not =
      subst (λ (l : List X). ArePicked P l picked) (sym (take_more xs i d inside))
      (ArePicked-skip P (get_or xs i d) (take i xs) picked are is_not)

-- one more number
pub range_with_len-more : (n : ℕ) → range_with_len 0 (n + 1) ≡ range_with_len 0 n ++ n ∷ []
range_with_len-more n =
    let id : ℕ → ℕ = λ k. k in
    let same : (l : List ℕ) → map id l ≡ l = λ l. map_fixed id l (λ k d lt. refl) in
    sym (same (range_with_len 0 (n + 1))) ∙ map-range_with_len_more id 0 n n (omega arith)
    ∙ ap (λ (l : List ℕ). l ++ n ∷ []) (same (range_with_len 0 n))

-- the first numbers have each number below
pub Contains-range : (n k : ℕ) → k < n → Contains (range_with_len 0 n) k
Contains-range n k lt = (k, omega (arith, lt, length-range_with_len 0 n), get_or-range_with_len 0 n k k lt ∙ omega arith)

-- and the same of the first numbers
module _ (P : ℕ → Type 0) (n : ℕ) (picked : List ℕ) (are : ArePicked P (range_with_len 0 n) picked) where
  pub ArePicked-range-push : P n → ArePicked P (range_with_len 0 (n + 1)) (picked ++ n ∷ [])
  ArePicked-range-push is =
      subst (λ (l : List ℕ). ArePicked P l (picked ++ n ∷ [])) (sym (range_with_len-more n))
      (ArePicked-push P n (range_with_len 0 n) picked are is)

  pub ArePicked-range-skip : (P n → ⊥) → ArePicked P (range_with_len 0 (n + 1)) picked
  ArePicked-range-skip is_not =
      subst (λ (l : List ℕ). ArePicked P l picked) (sym (range_with_len-more n))
      (ArePicked-skip P n (range_with_len 0 n) picked are is_not)
