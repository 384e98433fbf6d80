-- Regions never decrease along the objects, so the marked objects below a region are those below
-- its first object.
-- Serves `EntryLemmas` and `SumLemmas`; `PieceLemmas` of `sqz_slide`.
use Rattle.std.proofs.Common.{◌≡◌, ℕ, suc, ◌+◌, ◌<◌, ◌≤◌, Bool, true, false, cond, ltb, eqb, List, [], ◌∷◌, ◌++◌, map}
use Rattle.std.proofs.Common.{filter, length, get_or, take, refl, sym, ap, ◌∙◌, arith, inl, inr}
use Rattle.std.specs.List.{count_by}
use Rattle.std.proofs.lemmas.Bool.{cases_lt, cases_order, lt-ltb, le-ltb, eq-eqb, ne_eqb}
use Rattle.std.proofs.lemmas.List.Sums.{sum_by-cons}
use Rattle.sqz_object.specs.Chunk.{is_object}
use Rattle.sqz_image.specs.Objects.{Memory, Object, objects_of, moved_on, objects, object_count}
use Rattle.sqz_trace.specs.Live.{marked, live}
use Rattle.sqz_regions.proofs.RegionLemmas.{points_up_to_rises}
use Rattle.sqz_regions.specs.Regions.{Cutting, points_up_to, region_of, region_at, objects_before}

-- ---- a function that never falls along a list

-- no item has a number below that of the item before it, nor the first one below a bound
abbrev pub RisesFrom : {X : Type 0} → (X → ℕ) → ℕ → List X → Type 0
RisesFrom f low [] = Unit {0}
RisesFrom f low (x ∷ xs) = (low ≤ f x) × RisesFrom f (f x) xs

-- how many items have a number below a bound
abbrev pub count_below : {X : Type 0} → (X → ℕ) → ℕ → List X → ℕ
count_below f bound xs = count_by (λ x. ltb (f x) bound) xs

module _ {X : Type 0} (f : X → ℕ) where
  -- what rises from a bound rises from a lower one
  RisesFrom-lower : (lower low : ℕ) (xs : List X) → lower ≤ low → RisesFrom f low xs → RisesFrom f lower xs
  RisesFrom-lower lower low [] le h = tt
  RisesFrom-lower lower low (x ∷ xs) le h = (omega (arith, h.0), h.1)

  -- and so does a function of the numbers that never falls
  RisesFrom-through : (g : ℕ → ℕ) → ((a b : ℕ) → a ≤ b → g a ≤ g b) → (low : ℕ) (xs : List X) → RisesFrom f low xs
      → RisesFrom (λ x. g (f x)) (g low) xs
  RisesFrom-through g rises low [] h = tt
  RisesFrom-through g rises low (x ∷ xs) h = (rises low (f x) h.0, RisesFrom-through g rises (f x) xs h.1)

  -- what an item counts for
  abbrev counts : ℕ → X → ℕ
  counts bound x = cond (ltb (f x) bound) 1 0

  -- an item below the bound is counted
  count_below-yes : (bound : ℕ) (x : X) (xs : List X) → f x < bound → count_below f bound (x ∷ xs) ≡ suc (count_below f bound xs)
  count_below-yes bound x xs lt =
      let one : counts bound x ≡ 1 = rw (lt-ltb (f x) bound lt) refl in
      let cons = sum_by-cons (counts bound) x xs in
      omega (arith, one, cons)

  -- none is below a bound that the first does not reach
  count_below-none : (bound low : ℕ) (xs : List X) → bound ≤ low → RisesFrom f low xs → count_below f bound xs ≡ 0
  count_below-none bound low [] le h = refl
  count_below-none bound low (x ∷ xs) le h =
      let none : counts bound x ≡ 0 = rw (le-ltb (f x) bound (omega (arith, h.0))) refl in
      let cons = sum_by-cons (counts bound) x xs in
      omega (arith, none, cons, count_below-none bound (f x) xs (omega (arith, h.0)) h.1)

  -- none is below the first one's number
  count_below-first : (low : ℕ) (xs : List X) (d : X) → RisesFrom f low xs → 0 < length xs → count_below f (f (get_or xs 0 d)) xs ≡ 0
  count_below-first low [] d h lt = absurd (omega arith)
  count_below-first low (x ∷ xs) d h lt = count_below-none (f x) (f x) (x ∷ xs) (omega arith) (omega arith, h.1)

  -- no marked one is below a bound that the first does not reach
  filter_below-none : (bound low : ℕ) (marks : List Bool) (xs : List X) → bound ≤ low → RisesFrom f low xs
      → filter (λ x. ltb (f x) bound) (marked marks xs) ≡ []
  filter_below-none bound low [] xs le h = refl
  filter_below-none bound low (true ∷ marks) [] le h = refl
  filter_below-none bound low (false ∷ marks) [] le h = refl
  filter_below-none bound low (true ∷ marks) (x ∷ xs) le h =
      rw (le-ltb (f x) bound (omega (arith, h.0))) (filter_below-none bound (f x) marks xs (omega (arith, h.0)) h.1)
  filter_below-none bound low (false ∷ marks) (x ∷ xs) le h =
      filter_below-none bound (f x) marks xs (omega (arith, h.0)) h.1

  -- nor at one
  filter_at-none : (bound low : ℕ) (marks : List Bool) (xs : List X) → bound < low → RisesFrom f low xs
      → filter (λ x. eqb (f x) bound) (marked marks xs) ≡ []
  filter_at-none bound low [] xs lt h = refl
  filter_at-none bound low (true ∷ marks) [] lt h = refl
  filter_at-none bound low (false ∷ marks) [] lt h = refl
  filter_at-none bound low (true ∷ marks) (x ∷ xs) lt h =
      rw (ne_eqb (f x) bound (λ is. absurd (omega (arith, h.0)))) (filter_at-none bound (f x) marks xs (omega (arith, h.0)) h.1)
  filter_at-none bound low (false ∷ marks) (x ∷ xs) lt h =
      filter_at-none bound (f x) marks xs (omega (arith, h.0)) h.1

  -- the marked ones below the next bound are those below the bound, and then those at it
  filter_below-more : (bound low : ℕ) (marks : List Bool) (xs : List X) → RisesFrom f low xs
      → filter (λ x. ltb (f x) (bound + 1)) (marked marks xs)
      ≡ filter (λ x. ltb (f x) bound) (marked marks xs) ++ filter (λ x. eqb (f x) bound) (marked marks xs)
  filter_below-more bound low [] xs h = refl
  filter_below-more bound low (true ∷ marks) [] h = refl
  filter_below-more bound low (false ∷ marks) [] h = refl
  filter_below-more bound low (false ∷ marks) (x ∷ xs) h = filter_below-more bound (f x) marks xs h.1
  filter_below-more bound low (true ∷ marks) (x ∷ xs) h =
      elim (cases_order (f x) bound) [
        | inl is ↦
            (let none = filter_below-none bound (f x) marks xs (omega (arith, is)) h.1 in
            rw (lt-ltb (f x) (bound + 1) (omega (arith, is)), le-ltb (f x) bound (omega (arith, is)), eq-eqb (f x) bound is, none)
            (ap (λ (ys : List X). x ∷ ys) (filter_below-more bound (f x) marks xs h.1 ∙ rw none refl)))
        | inr (inl lt) ↦
            rw (lt-ltb (f x) (bound + 1) (omega arith), lt-ltb (f x) bound lt, ne_eqb (f x) bound (λ is. absurd (omega arith)))
            (ap (λ (ys : List X). x ∷ ys) (filter_below-more bound (f x) marks xs h.1))
        | inr (inr gt) ↦
            rw (
              le-ltb (f x) (bound + 1) (omega arith),
              le-ltb (f x) bound (omega arith),
              ne_eqb (f x) bound (λ is. absurd (omega arith)),
              filter_below-none (bound + 1) (f x) marks xs (omega arith) h.1,
              filter_below-none bound (f x) marks xs (omega arith) h.1,
              filter_at-none bound (f x) marks xs gt h.1,
            ) refl
      ]

  -- the marked ones among those below a bound are those of the marked ones that are below it
  pub marked_below : (bound low : ℕ) (marks : List Bool) (xs : List X) → RisesFrom f low xs
      → marked (take (count_below f bound xs) marks) (take (count_below f bound xs) xs)
      ≡ filter (λ x. ltb (f x) bound) (marked marks xs)
  marked_below bound low [] [] h = refl
  marked_below bound low (true ∷ marks) [] h = refl
  marked_below bound low (false ∷ marks) [] h = refl
  marked_below bound low marks (x ∷ xs) h =
      elim (cases_lt (f x) bound) [
        | inl lt ↦ rw (count_below-yes bound x xs lt) (inside marks lt (λ marks. marked_below bound (f x) marks xs h.1))
        | inr ge ↦
            rw (count_below-none bound (f x) (x ∷ xs) ge (omega arith, h.1))
            (sym (filter_below-none bound (f x) marks (x ∷ xs) ge (omega arith, h.1)))
      ]
    where
      inside : (marks : List Bool) → f x < bound
          → ((marks : List Bool) → marked (take (count_below f bound xs) marks) (take (count_below f bound xs) xs)
          ≡ filter (λ x. ltb (f x) bound) (marked marks xs))
          → marked (take (suc (count_below f bound xs)) marks) (x ∷ take (count_below f bound xs) xs)
          ≡ filter (λ x. ltb (f x) bound) (marked marks (x ∷ xs))
      inside [] lt others = refl
      inside (true ∷ marks) lt others = rw (lt-ltb (f x) bound lt) (ap (λ (ys : List X). x ∷ ys) (others marks))
      inside (false ∷ marks) lt others = others marks

-- ---- regions along the objects

-- objects behind more words rise as before
RisesFrom-moved_on : (count low : ℕ) (objects : List Object) → RisesFrom (λ object. object.first) low objects
    → RisesFrom (λ object. object.first) (count + low) (map (moved_on count) objects)
RisesFrom-moved_on count low [] h = tt
RisesFrom-moved_on count low (object ∷ objects) h = (omega (arith, h.0), RisesFrom-moved_on count object.first objects h.1)

-- the first words of the objects rise, where a chunk, perhaps free, stands before the others
firsts_rise_if : (test : Bool) (chunk : List ℕ) (objects : List Object) → RisesFrom (λ object. object.first) 0 objects
    → RisesFrom (λ object. object.first) 0
    ((cond test (record { first = 0; chunk = chunk } ∷ []) []) ++ map (moved_on (length chunk)) objects)
firsts_rise_if true chunk objects h =
    let moved = RisesFrom-moved_on (length chunk) 0 objects h in
    (omega arith, RisesFrom-lower (λ (object : Object). object.first) 0 (length chunk + 0) _ (omega arith) moved)
firsts_rise_if false chunk objects h =
    let moved = RisesFrom-moved_on (length chunk) 0 objects h in
    RisesFrom-lower (λ (object : Object). object.first) 0 (length chunk + 0) _ (omega arith) moved

-- the first words of the objects rise
firsts_rise : (chunks : List (List ℕ)) → RisesFrom (λ object. object.first) 0 (objects_of chunks)
firsts_rise [] = tt
firsts_rise (chunk ∷ chunks) = firsts_rise_if (is_object chunk) chunk (objects_of chunks) (firsts_rise chunks)

-- regions rise along the objects
pub regions_rise : (cut : Cutting) (memory : Memory) → RisesFrom (region_of cut) 0 (objects memory)
regions_rise cut memory =
    RisesFrom-lower (region_of cut) 0 (points_up_to cut 0) (objects memory) (omega arith)
    (RisesFrom-through (λ (object : Object). object.first) (points_up_to cut) (points_up_to_rises cut) 0 (objects memory)
    (firsts_rise memory.chunks))

abbrev no_object : Object
no_object = record { first = 0; chunk = [] }

module _ (cut : Cutting) (memory : Memory) where
  -- there are no objects before the region of the first object
  pub objects_before-first : 0 < object_count memory → objects_before cut memory (region_at cut memory 0) ≡ 0
  objects_before-first lt = count_below-first (region_of cut) 0 (objects memory) no_object (regions_rise cut memory) lt

  -- the live objects of the regions up to one are those of the regions before it, and then those in it
  pub live_below-next_region : (marks : List Bool) (region : ℕ)
      → let next : ℕ = objects_before cut memory (region + 1) in
      let here : ℕ = objects_before cut memory region in
      marked (take next marks) (take next (objects memory))
      ≡ marked (take here marks) (take here (objects memory)) ++ filter (λ object. eqb (region_of cut object) region) (live memory marks)
  live_below-next_region marks region =
      let rise = regions_rise cut memory in
      marked_below (region_of cut) (region + 1) 0 marks (objects memory) rise
      ∙ filter_below-more (region_of cut) region 0 marks (objects memory) rise
      ∙ ap (λ (below : List Object). below ++ filter (λ object. eqb (region_of cut object) region) (live memory marks))
      (sym (marked_below (region_of cut) region 0 marks (objects memory) rise))
