-- The number of elements of a list that pass a test, if exactly a first part of the list passes
-- it.
-- Serves `CutLemmas` and `RegionLemmas`.
use Rattle.std.proofs.Common.{◌≡◌, ℕ, zero, suc, ◌+◌, ◌<◌, ◌≤◌, Bool, true, false, cond, List, [], ◌∷◌, length}
use Rattle.std.proofs.Common.{get_or, refl, ap, ◌∙◌, ltb, arith, inl, inr}
use Rattle.std.specs.List.{count_by}
use Rattle.std.specs.List.Sorted.{IsPartitionedBy, IsPartitionPoint, IsNonDecreasingBy}
use Rattle.std.proofs.lemmas.Bool.{cases_Bool, cases_lt, ltb-true, ltb-false, lt-ltb, le-ltb}
use Rattle.std.proofs.lemmas.List.Sums.{sum_by-cons, sum_by-le-sum_by, count_by-le-length}
use Rattle.std.proofs.lemmas.List.Sorted.{IsPartitionedBy-ltb}

-- what an element counts for
abbrev counted : Bool → ℕ
counted passes = cond passes 1 0

module _ {X : Type 0} (p : X → Bool) where
  -- one that passes, and the others
  count_by-cons_yes : (x : X) (xs : List X) → p x ≡ true → count_by p (x ∷ xs) ≡ 1 + count_by p xs
  count_by-cons_yes x xs passes =
      sum_by-cons (λ y. counted (p y)) x xs ∙ ap (λ (b : Bool). counted b + count_by p xs) passes

  -- one that fails adds none
  count_by-cons_no : (x : X) (xs : List X) → p x ≡ false → count_by p (x ∷ xs) ≡ count_by p xs
  count_by-cons_no x xs fails =
      let more = sum_by-cons (λ y. counted (p y)) x xs in
      let none = ap (λ (b : Bool). counted b + count_by p xs) fails in
      let same : count_by p (x ∷ xs) ≡ 0 + count_by p xs = more ∙ none in
      omega arith

  -- where none passes there are none
  pub count_by_none : (xs : List X) (d : X) → ((i : ℕ) → i < length xs → p (get_or xs i d) ≡ false) → count_by p xs ≡ 0
  count_by_none [] d none = refl
  count_by_none (x ∷ xs) d none =
      count_by-cons_no x xs (none 0 (omega arith)) ∙ count_by_none xs d (λ i lt. none (suc i) (omega arith))

  -- a first part passes among the others too
  IsPartitionedBy-rest : (x : X) (xs : List X) → IsPartitionedBy p (x ∷ xs) → IsPartitionedBy p xs
  IsPartitionedBy-rest x xs parted i j d le lt passes = parted (suc i) (suc j) d (omega arith) (omega arith) passes

  -- where the first fails so do the others
  fails_behind : (x : X) (xs : List X) (i : ℕ) (d : X) → IsPartitionedBy p (x ∷ xs) → p x ≡ false → i < length xs
      → p (get_or xs i d) ≡ false
  fails_behind x xs i d parted fails lt =
      elim (cases_Bool (p (get_or xs i d))) [
        | inl passes ↦ (let first : p x ≡ true = parted 0 (suc i) d (omega arith) (omega arith) passes in absurd cc)
        | inr here ↦ here
      ]

  -- where the first fails, none passes
  count_by-fails : (x : X) (xs : List X) (d : X) → IsPartitionedBy p (x ∷ xs) → p x ≡ false → count_by p (x ∷ xs) ≡ 0
  count_by-fails x xs d parted fails =
      count_by-cons_no x xs fails ∙ count_by_none xs d (λ i lt. fails_behind x xs i d parted fails lt)

  -- each below the count passes
  pub passes_below_count : (xs : List X) (i : ℕ) (d : X) → IsPartitionedBy p xs → i < count_by p xs
      → p (get_or xs i d) ≡ true
  passes_below_count [] i d parted lt = absurd (omega arith)
  passes_below_count (x ∷ xs) zero d parted lt =
      elim (cases_Bool (p x)) [
        | inl passes ↦ passes
        | inr fails ↦ absurd (omega (arith, count_by-fails x xs d parted fails))
      ]
  passes_below_count (x ∷ xs) (suc i) d parted lt =
      elim (cases_Bool (p x)) [
        | inl passes ↦
            passes_below_count xs i d (IsPartitionedBy-rest x xs parted) (omega (arith, count_by-cons_yes x xs passes))
        | inr fails ↦ absurd (omega (arith, count_by-fails x xs d parted fails))
      ]

  -- each from the count on fails
  pub fails_from_count : (xs : List X) (i : ℕ) (d : X) → IsPartitionedBy p xs → count_by p xs ≤ i → i < length xs
      → p (get_or xs i d) ≡ false
  fails_from_count [] i d parted le lt = absurd (omega arith)
  fails_from_count (x ∷ xs) zero d parted le lt =
      elim (cases_Bool (p x)) [
        | inl passes ↦ absurd (omega (arith, count_by-cons_yes x xs passes))
        | inr fails ↦ fails
      ]
  fails_from_count (x ∷ xs) (suc i) d parted le lt =
      elim (cases_Bool (p x)) [
        | inl passes ↦
            fails_from_count xs i d (IsPartitionedBy-rest x xs parted) (omega (arith, count_by-cons_yes x xs passes))
            (omega arith)
        | inr fails ↦ fails_behind x xs i d parted fails (omega arith)
      ]

  -- the count is where the first part ends
  pub count_by_at_point : (xs : List X) (n : ℕ) (d : X) → n ≤ length xs → IsPartitionedBy p xs
      → IsPartitionPoint (λ y. p y ≡ true) (λ y. p y ≡ false) xs n → n ≡ count_by p xs
  count_by_at_point xs n d le parted point =
      elim (cases_lt n (count_by p xs)) [
        | inl lt ↦
            (let passes = passes_below_count xs n d parted lt in
            let fails = point.1 n d (omega arith) (omega (arith, count_by-le-length p xs)) in absurd cc)
        | inr ge ↦
            elim (cases_lt (count_by p xs) n) [
              | inl lt ↦
                  (let passes = point.0 (count_by p xs) d (omega arith) lt in
                  let fails = fails_from_count xs (count_by p xs) d parted (omega arith) (omega arith) in absurd cc)
              | inr le ↦ omega arith
            ]
      ]

-- what a test counts for rises with the bound
counted_rises : (number low high : ℕ) → low ≤ high → counted (ltb number low) ≤ counted (ltb number high)
counted_rises number low high le =
    elim (cases_Bool (ltb number low)) [
      | inl below ↦ rw (below, lt-ltb number high (let lt = ltb-true number low below in omega arith)) (omega arith)
      | inr above ↦ rw above (omega arith)
    ]

-- of a list along which a number never falls, how many are below a bound
module _ {X : Type 0} (number : X → ℕ) where
  abbrev pub count_below : ℕ → List X → ℕ
  count_below bound xs = count_by (λ x. ltb (number x) bound) xs

  -- each below that count is below the bound
  pub below_count_below : (bound i : ℕ) (xs : List X) (d : X) → IsNonDecreasingBy number xs → i < count_below bound xs
      → number (get_or xs i d) < bound
  below_count_below bound i xs d rises lt =
      ltb-true (number (get_or xs i d)) bound
      (passes_below_count (λ x. ltb (number x) bound) xs i d (IsPartitionedBy-ltb number xs bound rises) lt)

  -- each from it on is not
  pub from_count_below : (bound i : ℕ) (xs : List X) (d : X) → IsNonDecreasingBy number xs → count_below bound xs ≤ i
      → i < length xs → bound ≤ number (get_or xs i d)
  from_count_below bound i xs d rises le lt =
      ltb-false (number (get_or xs i d)) bound
      (fails_from_count (λ x. ltb (number x) bound) xs i d (IsPartitionedBy-ltb number xs bound rises) le lt)

  -- the count never falls as the bound rises
  pub count_below_rises : (low high : ℕ) (xs : List X) → low ≤ high → count_below low xs ≤ count_below high xs
  count_below_rises low high xs le =
      sum_by-le-sum_by (λ x. counted (ltb (number x) low)) (λ x. counted (ltb (number x) high)) xs
      (λ x. counted_rises (number x) low high le)

  -- none is below 0
  pub count_below-zero : (xs : List X) (d : X) → count_below 0 xs ≡ 0
  count_below-zero xs d =
      count_by_none (λ x. ltb (number x) 0) xs d (λ i lt. le-ltb (number (get_or xs i d)) 0 (omega arith))

  -- all are below a bound that each is below
  pub count_below_all : (bound : ℕ) (xs : List X) (d : X) → IsNonDecreasingBy number xs
      → ((i : ℕ) → i < length xs → number (get_or xs i d) < bound) → count_below bound xs ≡ length xs
  count_below_all bound xs d rises all =
      elim (cases_lt (count_below bound xs) (length xs)) [
        | inl lt ↦
            (let above = from_count_below bound (count_below bound xs) xs d rises (omega arith) lt in
            let below = all (count_below bound xs) lt in absurd (omega arith))
        | inr ge ↦ omega (arith, count_by-le-length (λ x. ltb (number x) bound) xs)
      ]
