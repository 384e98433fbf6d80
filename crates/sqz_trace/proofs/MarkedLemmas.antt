-- The marked elements among the first n of a list, as n grows.
-- Serves `LiveWordLemmas`; `CompactedLemmas` and `MovedLemmas` of `sqz_slide`; `TallyLemmas` of
-- `sqz_histogram`; `CorrespondenceLemmas` of `sqz_tool`; `WalkLemmas` of `sqz_alike`.
use Rattle.std.proofs.Common.{◌≡◌, ℕ, zero, suc, ◌+◌, ◌<◌, ◌≤◌, Bool, true, false, cond, List, [], ◌∷◌, ◌++◌}
use Rattle.std.proofs.Common.{length, get_or, take, refl, ap, arith, add-one}
use Rattle.std.specs.List.{count_by}
use Rattle.std.proofs.lemmas.List.{take_all}
use Rattle.std.proofs.lemmas.List.Sums.{sum_by-cons}
use Rattle.sqz_trace.specs.Graph.{is_marked}
use Rattle.sqz_trace.specs.Live.{marked}

-- a marked object is one of those that have marks
pub is_marked-inside : (marks : List Bool) (object : ℕ) → is_marked marks object ≡ true → object < length marks
is_marked-inside [] object e = absurd cc
is_marked-inside (mark ∷ marks) zero e = omega arith
is_marked-inside (mark ∷ marks) (suc object) e =
    let rest = is_marked-inside marks object e in
    omega (arith, rest)

-- a step where the next one is marked
marked_suc : {X : Type 0} (marks : List Bool) (xs : List X) (i : ℕ) (d : X)
    → i < length xs → get_or marks i false ≡ true
    → marked (take (suc i) marks) (take (suc i) xs) ≡ marked (take i marks) (take i xs) ++ get_or xs i d ∷ []
marked_suc [] xs i d lt e = absurd cc
marked_suc (mark ∷ marks) [] i d lt e = absurd (omega arith)
marked_suc (true ∷ marks) (x ∷ xs) zero d lt e = refl
marked_suc (false ∷ marks) (x ∷ xs) zero d lt e = absurd cc
marked_suc {X = X} (true ∷ marks) (x ∷ xs) (suc i) d lt e =
    ap (λ (ys : List X). x ∷ ys) (marked_suc marks xs i d (omega arith) e)
marked_suc (false ∷ marks) (x ∷ xs) (suc i) d lt e = marked_suc marks xs i d (omega arith) e

-- a step where the next one is not marked
unmarked_suc : {X : Type 0} (marks : List Bool) (xs : List X) (i : ℕ)
    → i < length xs → get_or marks i false ≡ false
    → marked (take (suc i) marks) (take (suc i) xs) ≡ marked (take i marks) (take i xs)
unmarked_suc [] xs zero lt e = refl
unmarked_suc [] xs (suc i) lt e = refl
unmarked_suc (mark ∷ marks) [] i lt e = absurd (omega arith)
unmarked_suc (true ∷ marks) (x ∷ xs) zero lt e = absurd cc
unmarked_suc (false ∷ marks) (x ∷ xs) zero lt e = refl
unmarked_suc {X = X} (true ∷ marks) (x ∷ xs) (suc i) lt e =
    ap (λ (ys : List X). x ∷ ys) (unmarked_suc marks xs i (omega arith) e)
unmarked_suc (false ∷ marks) (x ∷ xs) (suc i) lt e = unmarked_suc marks xs i (omega arith) e

module _ {X : Type 0} (marks : List Bool) (xs : List X) (i : ℕ) where
  -- one more, which is marked
  pub marked_more_yes : (d : X) → i < length xs → get_or marks i false ≡ true
      → marked (take (i + 1) marks) (take (i + 1) xs) ≡ marked (take i marks) (take i xs) ++ get_or xs i d ∷ []
  marked_more_yes d lt e = rw add-one (marked_suc marks xs i d lt e)

  -- one more, which is not marked
  pub marked_more_no : i < length xs → get_or marks i false ≡ false
      → marked (take (i + 1) marks) (take (i + 1) xs) ≡ marked (take i marks) (take i xs)
  marked_more_no lt e = rw add-one (unmarked_suc marks xs i lt e)

  -- all of them
  pub marked_all : length marks ≤ i → length xs ≤ i → marked (take i marks) (take i xs) ≡ marked marks xs
  marked_all le_marks le_xs = rw (take_all i marks le_marks, take_all i xs le_xs) refl

-- there are no more marked ones than there are
pub length-marked : {X : Type 0} (marks : List Bool) (xs : List X) → length (marked marks xs) ≤ length xs
length-marked [] xs = omega arith
length-marked (true ∷ marks) [] = omega arith
length-marked (false ∷ marks) [] = omega arith
length-marked (true ∷ marks) (x ∷ xs) = omega (arith, length-marked marks xs)
length-marked (false ∷ marks) (x ∷ xs) = omega (arith, length-marked marks xs)

-- what a mark counts for
abbrev counted : Bool → ℕ
counted mark = cond mark 1 0

-- there are as many marked ones as marks that are set, where each has its mark
pub length-marked_count : {X : Type 0} (marks : List Bool) (xs : List X) → length marks ≡ length xs
    → length (marked marks xs) ≡ count_by (λ mark. mark) marks
length-marked_count [] xs sized = refl
length-marked_count (mark ∷ marks) [] sized = absurd (omega arith)
length-marked_count (true ∷ marks) (x ∷ xs) sized =
    omega (arith, length-marked_count marks xs (omega arith), sum_by-cons counted true marks)
length-marked_count (false ∷ marks) (x ∷ xs) sized =
    omega (arith, length-marked_count marks xs (omega arith), sum_by-cons counted false marks)

-- ---- where a marked one stands among all marked ones

-- a marked one stands behind those marked before it
pub marked-at : {X : Type 0} (marks : List Bool) (xs : List X) (i : ℕ) (d : X) → i < length xs → get_or marks i false ≡ true
    → get_or (marked marks xs) (length (marked (take i marks) (take i xs))) d ≡ get_or xs i d
marked-at [] xs i d lt e = absurd cc
marked-at (mark ∷ marks) [] i d lt e = absurd (omega arith)
marked-at (true ∷ marks) (x ∷ xs) zero d lt e = refl
marked-at (false ∷ marks) (x ∷ xs) zero d lt e = absurd cc
marked-at (true ∷ marks) (x ∷ xs) (suc i) d lt e = marked-at marks xs i d (omega arith) e
marked-at (false ∷ marks) (x ∷ xs) (suc i) d lt e = marked-at marks xs i d (omega arith) e

-- and inside of them
pub marked-inside : {X : Type 0} (marks : List Bool) (xs : List X) (i : ℕ) → i < length xs → get_or marks i false ≡ true
    → length (marked (take i marks) (take i xs)) < length (marked marks xs)
marked-inside [] xs i lt e = absurd cc
marked-inside (mark ∷ marks) [] i lt e = absurd (omega arith)
marked-inside (true ∷ marks) (x ∷ xs) zero lt e = omega arith
marked-inside (false ∷ marks) (x ∷ xs) zero lt e = absurd cc
marked-inside (true ∷ marks) (x ∷ xs) (suc i) lt e = omega (arith, marked-inside marks xs i (omega arith) e)
marked-inside (false ∷ marks) (x ∷ xs) (suc i) lt e = marked-inside marks xs i (omega arith) e

-- those marked before it are the first of all marked ones
pub marked-before : {X : Type 0} (marks : List Bool) (xs : List X) (i : ℕ)
    → take (length (marked (take i marks) (take i xs))) (marked marks xs) ≡ marked (take i marks) (take i xs)
marked-before [] xs zero = refl
marked-before [] xs (suc i) = refl
marked-before (mark ∷ marks) [] zero = refl
marked-before (true ∷ marks) [] (suc i) = refl
marked-before (false ∷ marks) [] (suc i) = refl
marked-before (true ∷ marks) (x ∷ xs) zero = refl
marked-before (false ∷ marks) (x ∷ xs) zero = refl
marked-before {X = X} (true ∷ marks) (x ∷ xs) (suc i) = ap (λ (ys : List X). x ∷ ys) (marked-before marks xs i)
marked-before (false ∷ marks) (x ∷ xs) (suc i) = marked-before marks xs i

-- each place among the marked ones is that of one
pub record IsMarkedAt {X : Type 0} (marks : List Bool) (xs : List X) (place : ℕ) : Type 0 where
  pub index : ℕ
  pub inside : index < length xs
  pub set : get_or marks index false ≡ true
  pub same : length (marked (take index marks) (take index xs)) ≡ place

pub marked-onto : {X : Type 0} (marks : List Bool) (xs : List X) (j : ℕ) → j < length (marked marks xs) → IsMarkedAt marks xs j
marked-onto [] xs j lt = absurd (omega arith)
marked-onto (true ∷ marks) [] j lt = absurd (omega arith)
marked-onto (false ∷ marks) [] j lt = absurd (omega arith)
marked-onto (true ∷ marks) (x ∷ xs) zero lt = record { index = 0; inside = omega arith; set = refl; same = refl }
marked-onto (true ∷ marks) (x ∷ xs) (suc j) lt =
    let found = marked-onto marks xs j (omega arith) in
    let inside : found.index < length xs = found.inside in
    record { index = suc found.index; inside = omega arith; set = found.set; same = ap suc found.same }
marked-onto (false ∷ marks) (x ∷ xs) j lt =
    let found = marked-onto marks xs j lt in
    let inside : found.index < length xs = found.inside in
    record { index = suc found.index; inside = omega arith; set = found.set; same = found.same }
