-- The ends of categories, and the first places of listed objects.
-- Serves `categories`.
use Rattle.std.proofs.Common.{◌≡◌, ◌∙◌, ℕ, zero, suc, ◌+◌, ◌<◌, ◌≤◌, ltb, leb, Bool, true, false, List, [], ◌∷◌, length, get_or, cond, refl, sym, ap, inl, inr, arith}
use Rattle.std.specs.Prelude.{nat_lt, not, max, Option, Some, None, find}
use Rattle.std.specs.Bool.{then_some}
use Rattle.std.specs.List.{position_or_len, range_with_len}
use Rattle.std.specs.List.Sorted.{IsNonDecreasing, IsPartitionPoint}
use Rattle.std.specs.Option.{option_or}
use Rattle.std.proofs.lemmas.Bool.{cases_lt, leb-true, leb-false, lt-ltb, le-ltb}
use Rattle.std.proofs.lemmas.List.Folds.{find-append}
use Rattle.sqz_image.specs.declared.slot.Slot.TheVariants.{Field}
use Rattle.sqz_image.specs.Objects.{Memory}
use Rattle.sqz_trace.specs.Targets.{target}
use Rattle.sqz_names.specs.Categories.{category_at, first_among, maxima, points_to}
use Rattle.sqz_names.proofs.PickLemmas.{range_with_len-more}
use Rattle.sqz_names.proofs.PositionLemmas.{position-found, position-none}

-- ---- places of listed objects

module _ (memory : Memory) (array object count : ℕ) where
  -- one more field
  pub first_among-more : first_among memory array object (count + 1)
      ≡ option_or (first_among memory array object count) (cond (points_to (target memory array (Field count)) object) (Some count) None)
  first_among-more =
      let test : ℕ → Bool = λ field. points_to (target memory array (Field field)) object in
      ap (find test) (range_with_len-more count) ∙ find-append test (range_with_len 0 count) (count ∷ [])

-- ---- ends in order

-- each is at least `least`
maxima-above : (least : ℕ) (numbers : List ℕ) (k d : ℕ) → k < length (maxima least numbers) → least ≤ get_or (maxima least numbers) k d
maxima-above least [] k d inside = absurd (omega (arith, inside))
maxima-above least (number ∷ numbers) zero d inside = omega arith
maxima-above least (number ∷ numbers) (suc k) d inside =
    let above = maxima-above (max least number) numbers k d (omega (arith, inside)) in
    omega (arith, above)

pub maxima-ordered : (least : ℕ) (numbers : List ℕ) → IsNonDecreasing (maxima least numbers)
maxima-ordered least [] i j d le inside = absurd (omega (arith, inside))
maxima-ordered least (number ∷ numbers) zero zero d le inside = omega arith
maxima-ordered least (number ∷ numbers) zero (suc j) d le inside = maxima-above (max least number) numbers j d (omega (arith, inside))
maxima-ordered least (number ∷ numbers) (suc i) zero d le inside = absurd (omega (arith, le))
maxima-ordered least (number ∷ numbers) (suc i) (suc j) d le inside =
    maxima-ordered (max least number) numbers i j d (omega (arith, le)) (omega (arith, inside))

length-maxima : (least : ℕ) (numbers : List ℕ) → length (maxima least numbers) ≡ length numbers
length-maxima least [] = refl
length-maxima least (number ∷ numbers) = ap suc (length-maxima (max least number) numbers)

-- the first one above a place is at the place of the first number above it
first-maxima : (place least : ℕ) (numbers : List ℕ) → least ≤ place
    → position_or_len (nat_lt place) (maxima least numbers) ≡ position_or_len (nat_lt place) numbers
first-maxima place least [] le = refl
first-maxima place least (number ∷ numbers) le =
    let first : Bool → ℕ → ℕ = λ above behind. cond (not above) (1 + behind) 0 in
    elim (cases_lt place number) [
      | inl above ↦
          ap (λ b. first b (position_or_len (nat_lt place) (maxima (max least number) numbers))) (lt-ltb place (max least number) (omega (arith, above)))
          ∙ sym (ap (λ b. first b (position_or_len (nat_lt place) numbers)) (lt-ltb place number above))
      | inr below ↦
          ap (λ b. first b (position_or_len (nat_lt place) (maxima (max least number) numbers))) (le-ltb place (max least number) (omega (arith, below, le)))
          ∙ ap (first false) (first-maxima place (max least number) numbers (omega (arith, below, le)))
          ∙ sym (ap (λ b. first b (position_or_len (nat_lt place) numbers)) (le-ltb place number below))
    ]

pub category_at-maxima : (place : ℕ) (numbers : List ℕ) → category_at (maxima 0 numbers) place ≡ category_at numbers place
category_at-maxima place numbers =
    let chosen : ℕ → ℕ → Option ℕ = λ first count. cond (nat_lt first count) (Some first) None in
    ap (λ first. chosen first (length (maxima 0 numbers))) (first-maxima place 0 numbers (omega arith))
    ∙ ap (chosen (position_or_len (nat_lt place) numbers)) (length-maxima 0 numbers)

-- ---- the category at a place

pub category_at-point : (ends : List ℕ) (place category : ℕ) → category ≤ length ends
    → IsPartitionPoint (λ end. leb end place ≡ true) (λ end. leb end place ≡ false) ends category
    → then_some (ltb category (length ends)) category ≡ category_at ends place
category_at-point ends place category within point =
    let before : (k : ℕ) → k < category → nat_lt place (get_or ends k 0) ≡ false =
    λ k lt. le-ltb place (get_or ends k 0) (leb-true (get_or ends k 0) place (point.0 k 0 (omega arith) lt))
    in
    elim (cases_lt category (length ends)) [
      | inl inside ↦
          ap (λ b. then_some b category) (lt-ltb category (length ends) inside)
          ∙ position-found (nat_lt place) ends 0 category inside before
          (lt-ltb place (get_or ends category 0) (leb-false (get_or ends category 0) place (point.1 category 0 (omega arith) inside)))
      | inr above ↦
          ap (λ b. then_some b category) (le-ltb category (length ends) above)
          ∙ position-none (nat_lt place) ends 0 (λ k lt. before k (omega (arith, lt, above)))
    ]
