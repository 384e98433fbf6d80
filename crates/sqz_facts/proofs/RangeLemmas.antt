-- Lists that are made number by number.
-- Serves `referrers::referrers_of` and `all_defects::defects_of`.
use Rattle.std.proofs.Common.{◌≡◌, ℕ, zero, suc, ◌+◌, List, [], ◌∷◌, ◌++◌, Option, Some, None, refl, ap, ◌∙◌, arith}
use Rattle.std.specs.List.{filter_map, flat_map, range_with_len}
use Rattle.std.proofs.lemmas.List.{append-nil}
use Rattle.std.proofs.lemmas.List.Elements.{filter_map-append}
use Rattle.std.proofs.lemmas.Grind.{flat_map-append}

-- a range that is one longer has its end as its last number
range_with_len-push : (from count : ℕ) → range_with_len from (suc count) ≡ range_with_len from count ++ (from + count) ∷ []
range_with_len-push from zero = ap (λ (last : ℕ). last ∷ []) (omega arith)
range_with_len-push from (suc count) =
    ap (λ (rest : List ℕ). from ∷ rest)
    (range_with_len-push (from + 1) count ∙ ap (λ (last : ℕ). range_with_len (from + 1) count ++ last ∷ []) (omega arith))

-- the numbers below the next one
numbers-next : (count : ℕ) → range_with_len 0 (count + 1) ≡ range_with_len 0 count ++ count ∷ []
numbers-next count =
    let next : count + 1 ≡ suc count = omega arith in
    ap (range_with_len 0) next
    ∙ range_with_len-push 0 count
    ∙ ap (λ (last : ℕ). range_with_len 0 count ++ last ∷ []) (omega arith)

-- what the next number gives comes last
pub flat_map-next : {X : Type 0} (f : ℕ → List X) (count : ℕ)
    → flat_map f (range_with_len 0 (count + 1)) ≡ flat_map f (range_with_len 0 count) ++ f count
flat_map-next f count =
    ap (flat_map f) (numbers-next count)
    ∙ flat_map-append f (range_with_len 0 count) (count ∷ [])
    ∙ ap (λ last. flat_map f (range_with_len 0 count) ++ last) (append-nil (f count))

module _ {X : Type 0} (f : ℕ → Option X) (count : ℕ) where
  next : filter_map f (range_with_len 0 (count + 1)) ≡ filter_map f (range_with_len 0 count) ++ filter_map f (count ∷ [])
  next = ap (filter_map f) (numbers-next count) ∙ filter_map-append f (range_with_len 0 count) (count ∷ [])

  -- a number that gives nothing adds nothing
  pub filter_map-none : f count ≡ None → filter_map f (range_with_len 0 (count + 1)) ≡ filter_map f (range_with_len 0 count)
  filter_map-none none = next ∙ rw none (append-nil (filter_map f (range_with_len 0 count)))

  -- another adds what it gives
  pub filter_map-some : (x : X) → f count ≡ Some x
      → filter_map f (range_with_len 0 (count + 1)) ≡ filter_map f (range_with_len 0 count) ++ x ∷ []
  filter_map-some x some = next ∙ rw some refl
