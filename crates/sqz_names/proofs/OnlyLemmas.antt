-- The only marked one of the first objects of a list.
-- Serves `only`.
use Rattle.std.proofs.Common.{◌≡◌, ℕ, ◌+◌, ◌<◌, Bool, true, false, List, [], ◌∷◌, ◌++◌, length, take, drop, get_or, sym, ap, subst, ◌∙◌, cond, arith}
use Rattle.std.specs.Prelude.{filter, All, Option, Some, None, is_some, IfSome}
use Rattle.std.proofs.lemmas.List.{append-nil, take-append-drop}
use Rattle.std.proofs.lemmas.List.Elements.{All-filter, filter_more, filter-append}
use Rattle.std.specs.Option.{option_or}
use Rattle.sqz_trace.specs.Graph.{is_marked}
use Rattle.sqz_names.specs.Found.{only_one, the_only}

-- the item that passes among some, where at most one does
abbrev pub IsOnlyOne : List ℕ → Option ℕ → Type 0
IsOnlyOne passed None = passed ≡ []
IsOnlyOne passed (Some object) = passed ≡ object ∷ []

-- so it is the one of them
pub IsOnlyOne-all : (passed : List ℕ) (found : Option ℕ) → IsOnlyOne passed found → found ≡ only_one passed
IsOnlyOne-all passed None none = sym (ap only_one none)
IsOnlyOne-all passed (Some object) one = sym (ap only_one one)

module _ (p : ℕ → Bool) (xs : List ℕ) (i : ℕ) (d : ℕ) (inside : i < length xs) where
  -- an item more that does not pass
  pub IsOnlyOne-skip : (found : Option ℕ) → IsOnlyOne (filter p (take i xs)) found → p (get_or xs i d) ≡ false
      → IsOnlyOne (filter p (take (i + 1) xs)) found
  IsOnlyOne-skip found is fails =
      subst (λ (l : List ℕ). IsOnlyOne l found)
      (sym (filter_more p xs i d inside ∙ ap (λ (b : Bool). filter p (take i xs) ++ cond b (get_or xs i d ∷ []) []) fails
      ∙ append-nil (filter p (take i xs)))) is

  -- the first item that passes
  pub IsOnlyOne-first : IsOnlyOne (filter p (take i xs)) None → p (get_or xs i d) ≡ true
      → IsOnlyOne (filter p (take (i + 1) xs)) (Some (get_or xs i d))
  IsOnlyOne-first none passes =
      filter_more p xs i d inside ∙ ap (λ (b : Bool). filter p (take i xs) ++ cond b (get_or xs i d ∷ []) []) passes
      ∙ ap (λ (l : List ℕ). l ++ get_or xs i d ∷ []) none

  -- a second one
  pub only_one-second : (found : Option ℕ) → IsOnlyOne (filter p (take i xs)) found → is_some found ≡ true
      → p (get_or xs i d) ≡ true → None ≡ only_one (filter p xs)
  only_one-second None none is passes = absurd cc
  only_one-second (Some object) one is passes =
      let x : ℕ = get_or xs i d in
      let passed : filter p (take (i + 1) xs) ≡ object ∷ x ∷ [] =
      filter_more p xs i d inside ∙ ap (λ (b : Bool). filter p (take i xs) ++ cond b (x ∷ []) []) passes
      ∙ ap (λ (l : List ℕ). l ++ x ∷ []) one in
      let all : filter p xs ≡ object ∷ x ∷ filter p (drop (i + 1) xs) =
      ap (filter p) (sym (take-append-drop (i + 1) xs)) ∙ filter-append p (take (i + 1) xs) (drop (i + 1) xs)
      ∙ ap (λ (l : List ℕ). l ++ filter p (drop (i + 1) xs)) passed in
      sym (ap only_one all)

-- a fact about all items is one about the item of a list that has one
All-only_one : (P : ℕ → Type 0) (xs : List ℕ) → All P xs → IfSome (only_one xs) P
All-only_one P [] all = tt
All-only_one P (x ∷ []) all = all 0 x (omega arith)
All-only_one P (x ∷ y ∷ xs) all = tt

-- and about the first of two items that is there
either : (P : ℕ → Type 0) (one other : Option ℕ) → IfSome one P → IfSome other P → IfSome (option_or one other) P
either P (Some x) other is is_other = is
either P None other is is_other = is_other

-- so it is one about the only one of objects, or the only marked one
pub All-the_only : (P : ℕ → Type 0) (marks : List Bool) (objects : List ℕ) → All P objects → IfSome (the_only marks objects) P
All-the_only P marks objects all =
    let marked : List ℕ = filter (is_marked marks) objects in
    either P (only_one objects) (only_one marked) (All-only_one P objects all)
    (All-only_one P marked (All-filter (is_marked marks) P objects all))
