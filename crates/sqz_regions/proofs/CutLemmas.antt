-- The points of a cut.
-- Serves `cut::is_cut_list`, `cut::Cut::count`, `cut::Cut::end` and `cut::Cut::region`.
use Rattle.std.proofs.Common.{◌≡◌, ◌⊎◌, ◌↔◌, ℕ, zero, suc, ◌+◌, ◌^◌, ◌<◌, ◌≤◌, true, false, List, length}
use Rattle.std.proofs.Common.{get_or, refl, leb, arith, inl, inr}
use Rattle.std.specs.List.Sorted.{IsPartitionedBy, IsPartitionPoint, IsNonDecreasing}
use Rattle.std.proofs.lemmas.Bool.{cases_lt, leb-true, leb-false}
use Rattle.std.proofs.lemmas.Grind.{get_or_default_zero}
use Rattle.std.proofs.lemmas.List.Sorted.{IsPartitionedBy-leb}
use Rattle.sqz_regions.specs.Regions.{Cutting, At, points_up_to}
use Rattle.sqz_regions.specs.Cuts.{IsCutList}
use Rattle.sqz_regions.proofs.CountLemmas.{passes_below_count, fails_from_count, count_by_at_point}

-- ---- the points of a list

-- points never fall
pub points_rise : (points : List ℕ) → IsCutList points → IsNonDecreasing points
points_rise points list i j d le lt =
    elim (cases_lt i j) [
      | inl below ↦
          (let rises = list.rises i j below lt in
          omega (arith, get_or_default_zero points i d (omega arith), get_or_default_zero points j d lt))
      | inr ge ↦ (let same : i ≡ j = omega arith in rw same (omega arith))
    ]

-- a point is no lower than its index
index_below_point : (points : List ℕ) (i : ℕ) → IsCutList points → i < length points → i ≤ get_or points i 0
index_below_point points zero list lt = omega arith
index_below_point points (suc i) list lt =
    omega (arith, index_below_point points i list (omega arith), list.rises i (suc i) (omega arith) lt)

-- there are no more points than words that may be one
pub few_points : (points : List ℕ) → IsCutList points → length points ≤ 2 ^ 30 + 1
few_points points list =
    elim (cases_lt (2 ^ 30 + 1) (length points)) [
      | inl lt ↦
          absurd (omega (arith, index_below_point points (2 ^ 30 + 1) list lt, list.bounded (2 ^ 30 + 1) lt))
      | inr le ↦ le
    ]

-- the points up to a word are a first part
pub points_parted : (points : List ℕ) (word : ℕ) → IsCutList points → IsPartitionedBy (λ point. leb point word) points
points_parted points word list = IsPartitionedBy-leb (λ point. point) points word (points_rise points list)

-- a word is below a point just where there are no more points up to it than before that one
pub below_point : (points : List ℕ) (word region : ℕ) → IsCutList points → region < length points
    → (word < get_or points region 0) ↔ (points_up_to (At points) word ≤ region)
below_point points word region list inside =
    let parted = points_parted points word list in (
      (λ lt.
          elim (cases_lt region (points_up_to (At points) word)) [
            | inl below ↦
                (let le = leb-true _ _ (passes_below_count (λ point. leb point word) points region 0 parted below) in
                absurd (omega arith))
            | inr from ↦ from
          ]),
      (λ le. leb-false _ _ (fails_from_count (λ point. leb point word) points region 0 parted le inside)),
    )

-- a point tells whether a word is in its region or in one before
pub point_tells : (cut : Cutting) (points : List ℕ) (region point : ℕ) → At points ≡ cut → IsCutList points
    → region < length points → point ≡ get_or points region 0
    → (word : ℕ) → (word < point) ↔ (points_up_to cut word ≤ region)
point_tells cut points region point is list inside at word =
    rw (← is, at) (below_point points word region list inside)

-- the points up to a word are those before the place where they end
pub region_at_point : (cut : Cutting) (points : List ℕ) (word region : ℕ) → At points ≡ cut → IsCutList points
    → region ≤ length points
    → IsPartitionPoint (λ point. leb point word ≡ true) (λ point. leb point word ≡ false) points region
    → region ≡ points_up_to cut word
region_at_point cut points word region is list inside at =
    rw (← is) (count_by_at_point (λ point. leb point word) points region 0 inside (points_parted points word list) at)

-- ---- a list that is read from its first word on

-- the first `count` points are those of a cut, and the next one must be at least the lowest
pub record IsCutListSoFar (points : List ℕ) (count lowest : ℕ) : Type 0 where
  pub rises : (i j : ℕ) → i < j → j < count → get_or points i 0 < get_or points j 0
  pub bounded : (i : ℕ) → i < count → get_or points i 0 ≤ 2 ^ 30
  pub below : (i : ℕ) → i < count → get_or points i 0 < lowest
  pub next : (lowest ≡ 0) ⊎ ((i : ℕ) × (i < count) × (lowest ≡ get_or points i 0 + 1))

-- no point yet
pub no_point_yet : (points : List ℕ) → IsCutListSoFar points 0 0
no_point_yet points =
    record {
      rises = λ i j lt in_count. absurd (omega arith);
      bounded = λ i lt. absurd (omega arith);
      below = λ i lt. absurd (omega arith);
      next = inl refl;
    }

module _ (points : List ℕ) (count lowest : ℕ) (so_far : IsCutListSoFar points count lowest) where
  -- one point more
  pub one_point_more : lowest ≤ get_or points count 0 → get_or points count 0 ≤ 2 ^ 30
      → IsCutListSoFar points (count + 1) (get_or points count 0 + 1)
  one_point_more above bounded =
      record {
        rises =
            λ i j lt in_count.
            elim (cases_lt j count) [
              | inl before ↦ so_far.rises i j lt before
              | inr ge ↦ (let same : j ≡ count = omega arith in rw same (omega (arith, so_far.below i (omega arith))))
            ];
        bounded =
            λ i in_count.
            elim (cases_lt i count) [
              | inl before ↦ so_far.bounded i before
              | inr ge ↦ (let same : i ≡ count = omega arith in rw same bounded)
            ];
        below =
            λ i in_count.
            elim (cases_lt i count) [
              | inl before ↦ omega (arith, so_far.below i before)
              | inr ge ↦ (let same : i ≡ count = omega arith in rw same (omega arith))
            ];
        next = inr (count, omega arith, refl);
      }

  -- all points
  pub all_points : length points ≤ count → IsCutList points
  all_points le =
      record {
        rises = λ i j lt inside. so_far.rises i j lt (omega arith);
        bounded = λ i inside. so_far.bounded i (omega arith);
      }

  -- no list of a cut has a point below the lowest
  pub not_below_lowest : count < length points → IsCutList points → lowest ≤ get_or points count 0
  not_below_lowest inside list =
      elim so_far.next [
        | inl zero_is ↦ omega arith
        | inr (i, lt, is) ↦ omega (arith, list.rises i count lt inside)
      ]
