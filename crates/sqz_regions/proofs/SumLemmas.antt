-- The live words of the regions, one region after the other.
-- Serves `forward::range_places`, `sums::live_words` and `ListedLemmas`; `table::MarkTable::close`
-- of `sqz_marks`.
use Rattle.std.proofs.Common.{◌≡◌, ◌⊎◌, ℕ, zero, suc, ◌+◌, ◌*◌, ◌<◌, ◌≤◌, Bool, true, false, cond, ltb, eqb}
use Rattle.std.proofs.Common.{List, [], ◌∷◌, filter, length, get_or, take}
use Rattle.std.proofs.Common.{refl, sym, ap, subst, ◌∙◌, arith, add-one, inl, inr}
use Rattle.std.specs.List.{sum, sum_by}
use Rattle.std.proofs.lemmas.Bool.{cases_order, lt-ltb, le-ltb, eq-eqb, ne_eqb}
use Rattle.std.proofs.lemmas.List.{take_all}
use Rattle.std.proofs.lemmas.List.Sums.{sum_by-cons, sum_by_more}
use Rattle.sqz_image.specs.Objects.{Memory, objects, object_count, words_in}
use Rattle.sqz_trace.specs.Live.{live, live_words_below, live_words}
use Rattle.sqz_regions.specs.Regions.{Cutting, Regioning, region_of, region_count, objects_before, live_words_in}
use Rattle.sqz_regions.specs.Bases.{AreSums, AreBasesOf}
use Rattle.sqz_trace.proofs.LiveWordLemmas.{size, live_words_all}
use Rattle.sqz_regions.proofs.RisingLemmas.{marked_below, regions_rise}

-- ---- sums of what a filter keeps

module _ {X : Type 0} (g : X → ℕ) where
  -- one item and the others
  pub sum_by-filter-cons : (p : X → Bool) (x : X) (xs : List X)
      → sum_by g (filter p (x ∷ xs)) ≡ cond (p x) (g x) 0 + sum_by g (filter p xs)
  sum_by-filter-cons p x xs = by_test (p x)
    where
      by_test : (test : Bool)
          → sum_by g (cond test (x ∷ filter p xs) (filter p xs)) ≡ cond test (g x) 0 + sum_by g (filter p xs)
      by_test true = sum_by-cons g x (filter p xs)
      by_test false = omega arith

  -- nothing is below 0
  pub sum_by-filter_below_zero : (f : X → ℕ) (xs : List X) → sum_by g (filter (λ x. ltb (f x) 0) xs) ≡ 0
  sum_by-filter_below_zero f [] = refl
  sum_by-filter_below_zero f (x ∷ xs) = rw (le-ltb (f x) 0 (omega arith)) (sum_by-filter_below_zero f xs)

  -- what is below the next bound is what is below the bound, and what is at it
  pub sum_by-filter_below_more : (f : X → ℕ) (bound : ℕ) (xs : List X)
      → sum_by g (filter (λ x. ltb (f x) (bound + 1)) xs)
      ≡ sum_by g (filter (λ x. ltb (f x) bound) xs) + sum_by g (filter (λ x. eqb (f x) bound) xs)
  sum_by-filter_below_more f bound [] = refl
  sum_by-filter_below_more f bound (x ∷ xs) =
      let more = sum_by-filter-cons (λ (x : X). ltb (f x) (bound + 1)) x xs in
      let below = sum_by-filter-cons (λ (x : X). ltb (f x) bound) x xs in
      let at = sum_by-filter-cons (λ (x : X). eqb (f x) bound) x xs in
      omega (arith, more, below, at, sum_by-filter_below_more f bound xs, one (cases_order (f x) bound))
    where
      one : (f x ≡ bound) ⊎ ((f x < bound) ⊎ (bound < f x))
          → cond (ltb (f x) (bound + 1)) (g x) 0 ≡ cond (ltb (f x) bound) (g x) 0 + cond (eqb (f x) bound) (g x) 0
      one (inl is) =
          let here = eq-eqb (f x) bound is in
          rw (lt-ltb (f x) (bound + 1) (omega arith), le-ltb (f x) bound (omega arith), here) (omega arith)
      one (inr (inl lt)) =
          let other = ne_eqb (f x) bound (λ is. absurd (omega arith)) in
          rw (lt-ltb (f x) (bound + 1) (omega arith), lt-ltb (f x) bound lt, other) (omega arith)
      one (inr (inr gt)) =
          let other = ne_eqb (f x) bound (λ is. absurd (omega arith)) in
          rw (le-ltb (f x) (bound + 1) (omega arith), le-ltb (f x) bound (omega arith), other) (omega arith)

module _ (memory : Memory) (marks : List Bool) where
  -- ---- the live words of a region

  module _ (cut : Cutting) where
    -- the live words of the regions before one
    abbrev live_words_before : ℕ → ℕ
    live_words_before region = words_in (filter (λ object. ltb (region_of cut object) region) (live memory marks))

    -- they are those of the marked objects below the region's first
    live_words_below-objects_before : (region : ℕ)
        → live_words_below memory marks (objects_before cut memory region) ≡ live_words_before region
    live_words_below-objects_before region =
        ap words_in (marked_below (region_of cut) region 0 marks (objects memory) (regions_rise cut memory))

    -- below the next region's first object there are those below the region's first, and the region's
    pub live_words_below-next_region : (region : ℕ)
        → live_words_below memory marks (objects_before cut memory (region + 1))
        ≡ live_words_below memory marks (objects_before cut memory region) + live_words_in cut memory marks region
    live_words_below-next_region region =
        live_words_below-objects_before (region + 1)
        ∙ sum_by-filter_below_more size (region_of cut) region (live memory marks)
        ∙ ap (λ words. words + live_words_in cut memory marks region) (sym (live_words_below-objects_before region))

    -- the sums of the regions before one make the live words below its first object
    sum-take-sums : (sums : List ℕ) → AreSums (record { cut = cut; memory = memory }) marks sums
        → (region : ℕ) → region ≤ length sums
        → sum (take region sums) ≡ live_words_below memory marks (objects_before cut memory region)
    sum-take-sums sums h zero le =
        sym (live_words_below-objects_before 0 ∙ sum_by-filter_below_zero size (region_of cut) (live memory marks))
    sum-take-sums sums h (suc region) le =
        rw (← add-one region)
        (let lt : region < length sums = omega arith in
        let before = sum-take-sums sums h region (omega arith) in
        let more = sum_by_more (λ (words : ℕ). words) sums region 0 lt in
        let here = h.each region (omega (arith, h.sized)) in
        omega (arith, more, before, here, live_words_below-next_region region))

-- the live words of a region go after the live words below its first object
pub base_of_region : (regions : Regioning) (marks : List Bool) (bases : List ℕ) → AreBasesOf regions marks bases
    → (region : ℕ) → region < region_count regions.cut regions.memory
    → get_or bases region 0
    ≡ regions.memory.base + 4 * live_words_below regions.memory marks (objects_before regions.cut regions.memory region)
base_of_region regions marks bases h region lt =
    let sized = h.are_sums.sized in
    let inside : region < length h.sums = omega arith in
    let before = sum-take-sums regions.memory marks regions.cut h.sums h.are_sums region (omega arith) in
    omega (arith, h.are_bases.each region inside, before)

module _ (regions : Regioning) (memory : Memory) (marks : List Bool) where
  -- the live words of a region are those between its first object and the next region's
  pub live_words_in-between : (region from to words : ℕ)
      → regions.memory ≡ memory → from ≡ objects_before regions.cut regions.memory region
      → to ≡ objects_before regions.cut regions.memory (region + 1)
      → live_words_below memory marks from + words ≡ live_words_below memory marks to
      → words ≡ live_words_in regions.cut regions.memory marks region
  live_words_in-between region from to words same from_is to_is h =
      let between =
      subst (λ (memory : Memory). live_words_below memory marks from + words ≡ live_words_below memory marks to)
      (sym same) h in
      let first = ap (live_words_below regions.memory marks) from_is in
      let end = ap (live_words_below regions.memory marks) to_is in
      omega (arith, between, first, end, live_words_below-next_region regions.memory marks regions.cut region)

  -- the sums of all regions make all live words
  pub sum-AreSums : (sums : List ℕ) (count : ℕ) → regions.memory ≡ memory → AreSums regions marks sums
      → count ≡ region_count regions.cut regions.memory
      → objects_before regions.cut regions.memory count ≡ object_count regions.memory
      → length marks ≡ object_count memory → sum sums ≡ live_words memory marks
  sum-AreSums sums count is are count_is all sized =
      subst (λ (m : Memory). sum sums ≡ live_words m marks) is
      (sym (ap sum (take_all count sums (omega (arith, are.sized))))
      ∙ sum-take-sums regions.memory marks regions.cut sums are count (omega (arith, are.sized))
      ∙ ap (live_words_below regions.memory marks) all
      ∙ live_words_all regions.memory marks (object_count regions.memory)
      (sized ∙ ap object_count (sym is)) (omega arith))
