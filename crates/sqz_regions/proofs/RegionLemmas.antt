-- Regions never decrease along the objects, so the objects of each region are adjacent.
-- Serves `regions::end_of`, `regions::Regions::before`, `::count`, `::objects`, `::of`,
-- `::region`, `sums::live_words`, `EntryLemmas` and `RisingLemmas`; `mover::Mover::piece_of` and
-- `PieceLemmas` of `sqz_slide`.
use Rattle.std.proofs.Common.{◌≡◌, ℕ, zero, suc, ◌+◌, ◌-◌, ◌/◌, ◌<◌, ◌≤◌, Bool, true, false, cond, List, [], ◌∷◌, ◌++◌}
use Rattle.std.proofs.Common.{map, length, get_or, refl, sym, ap, subst, ◌∙◌, ◌↔◌, leb, arith, inl, inr}
use Rattle.std.specs.List.{concat}
use Rattle.std.specs.List.Sorted.{IsNonDecreasingBy}
use Rattle.std.proofs.lemmas.Bool.{cases_Bool, cases_lt, leb-true, le-leb}
use Rattle.std.proofs.lemmas.Nat.{le-div}
use Rattle.std.proofs.Math.Nat.{div-mul-le_self, div-zero}
use Rattle.std.proofs.lemmas.List.{length_push, get_or_push}
use Rattle.std.proofs.Math.ListN.{get_or-append}
use Rattle.std.proofs.lemmas.List.Sums.{sum_by-le-sum_by, count_by-le-length}
use Rattle.sqz_object.specs.Chunk.{is_object}
use Rattle.sqz_image.specs.Objects.{Memory, Object, objects_of, moved_on, objects, object_count, object_at}
use Rattle.sqz_image.proofs.ObjectLemmas.{StandsIn, objects_stand, objects_are_objects, All_at}
use Rattle.sqz_regions.specs.Regions.{Cutting, Every, At, points_up_to, region_of, region_at, region_count}
use Rattle.sqz_regions.specs.Regions.{objects_before, Regioning}
use Rattle.sqz_regions.specs.Cuts.{IsValidCut}
use Rattle.sqz_regions.specs.Ends.{AreEnds}
use Rattle.sqz_regions.proofs.CountLemmas.{below_count_below, from_count_below, count_below_rises}
use Rattle.sqz_regions.proofs.CountLemmas.{count_below-zero, count_below_all}

abbrev no_object : Object
no_object = record { first = 0; chunk = [] }

-- ---- first words never fall along the objects

-- the first word of each is no lower than that of the one before, and of the first no lower than this
FirstsRise : ℕ → List Object → Type 0
FirstsRise low [] = Unit {0}
FirstsRise low (object ∷ objects) = (low ≤ object.first) × FirstsRise object.first objects

FirstsRise-lower : (low high : ℕ) (objects : List Object) → low ≤ high → FirstsRise high objects
    → FirstsRise low objects
unfolding FirstsRise
FirstsRise-lower low high [] le rise = tt
FirstsRise-lower low high (object ∷ objects) le rise = (omega (arith, rise.0), rise.1)

FirstsRise-moved_on : (low count : ℕ) (objects : List Object) → FirstsRise low objects
    → FirstsRise (count + low) (map (moved_on count) objects)
unfolding FirstsRise
FirstsRise-moved_on low count [] rise = tt
FirstsRise-moved_on low count (object ∷ objects) rise =
    (omega (arith, rise.0), FirstsRise-moved_on object.first count objects rise.1)

-- a chunk's object, where it is one, before objects
FirstsRise-if : (test : Bool) (chunk : List ℕ) (objects : List Object) → FirstsRise 0 objects
    → FirstsRise 0 ((cond test (record { first = 0; chunk = chunk } ∷ []) []) ++ objects)
unfolding FirstsRise
FirstsRise-if true chunk objects rise = (omega arith, rise)
FirstsRise-if false chunk objects rise = rise

FirstsRise-objects_of : (chunks : List (List ℕ)) → FirstsRise 0 (objects_of chunks)
unfolding FirstsRise
FirstsRise-objects_of [] = tt
FirstsRise-objects_of (chunk ∷ chunks) =
    let moved = FirstsRise-moved_on 0 (length chunk) (objects_of chunks) (FirstsRise-objects_of chunks) in
    FirstsRise-if (is_object chunk) chunk (map (moved_on (length chunk)) (objects_of chunks))
    (FirstsRise-lower 0 (length chunk + 0) (map (moved_on (length chunk)) (objects_of chunks)) (omega arith) moved)

FirstsRise_at : (low : ℕ) (objects : List Object) (i : ℕ) (d : Object) → i < length objects → FirstsRise low objects
    → low ≤ (get_or objects i d).first
unfolding FirstsRise
FirstsRise_at low [] i d lt rise = absurd (omega arith)
FirstsRise_at low (object ∷ objects) zero d lt rise = rise.0
FirstsRise_at low (object ∷ objects) (suc i) d lt rise =
    omega (arith, rise.0, FirstsRise_at object.first objects i d (omega arith) rise.1)

FirstsRise_order : (low : ℕ) (objects : List Object) → FirstsRise low objects
    → IsNonDecreasingBy (λ object. object.first) objects
unfolding FirstsRise
FirstsRise_order low [] rise i j d le lt = absurd (omega arith)
FirstsRise_order low (object ∷ objects) rise zero zero d le lt = omega arith
FirstsRise_order low (object ∷ objects) rise zero (suc j) d le lt =
    FirstsRise_at object.first objects j d (omega arith) rise.1
FirstsRise_order low (object ∷ objects) rise (suc i) zero d le lt = absurd (omega arith)
FirstsRise_order low (object ∷ objects) rise (suc i) (suc j) d le lt =
    FirstsRise_order object.first objects rise.1 i j d (omega arith) (omega arith)

-- the first words of objects never fall
pub firsts_rise : (memory : Memory) → IsNonDecreasingBy (λ object. object.first) (objects memory)
firsts_rise memory = FirstsRise_order 0 (objects memory) (FirstsRise-objects_of memory.chunks)

-- an object has a word
object_has_words : (chunk : List ℕ) → is_object chunk ≡ true → 0 < length chunk
object_has_words [] used = absurd cc
object_has_words (word ∷ words) used = omega arith

-- an object's first word is a data word
pub first_inside : (memory : Memory) (index : ℕ) → index < object_count memory
    → (object_at memory index).first < length (concat memory.chunks)
first_inside memory index lt =
    let words = concat memory.chunks in
    let stands = All_at (StandsIn words) (objects memory) index no_object lt (objects_stand memory.chunks) in
    let used =
    All_at (λ object. is_object object.chunk ≡ true) (objects memory) index no_object lt
    (objects_are_objects memory.chunks) in
    let inside = stands.inside in
    let has_words = object_has_words (object_at memory index).chunk used in
    omega arith

-- ---- cut points up to a word

-- what a point counts for never falls
point_counted : (point low high : ℕ) → low ≤ high → cond (leb point low) 1 0 ≤ cond (leb point high) 1 0
point_counted point low high le =
    elim (cases_Bool (leb point low)) [
      | inl passed ↦ rw (passed, le-leb point high (let below = leb-true point low passed in omega arith)) (omega arith)
      | inr not_yet ↦ rw not_yet (omega arith)
    ]

div_rises : (low high words : ℕ) → low ≤ high → low / words ≤ high / words
div_rises low high zero le = omega (arith, div-zero low, div-zero high)
div_rises low high (suc words) le =
    le-div (low / suc words) high (suc words) (omega arith) (omega (arith, div-mul-le_self low (suc words)))

-- the number of points up to a word never falls
pub points_up_to_rises : (cut : Cutting) (low high : ℕ) → low ≤ high → points_up_to cut low ≤ points_up_to cut high
points_up_to_rises (Every words) low high le = div_rises low high words le
points_up_to_rises (At points) low high le =
    sum_by-le-sum_by (λ point. cond (leb point low) 1 0) (λ point. cond (leb point high) 1 0) points
    (λ point. point_counted point low high le)

-- a data word is in one of the regions
pub points_up_to_inside : (cut : Cutting) (memory : Memory) (word : ℕ) → IsValidCut cut
    → word < length (concat memory.chunks) → points_up_to cut word < region_count cut memory
points_up_to_inside (Every words) memory word valid inside =
    let most = length (concat memory.chunks) + (words - 1) in
    omega (arith, le-div (word / words + 1) most words valid.0 (omega (arith, div-mul-le_self word words)))
points_up_to_inside (At points) memory word valid inside =
    omega (arith, count_by-le-length (λ point. leb point word) points)

-- ---- the regions of objects

module _ (cut : Cutting) (memory : Memory) where
  -- the regions of objects never fall
  regions_rise : IsNonDecreasingBy (region_of cut) (objects memory)
  regions_rise i j d le lt = points_up_to_rises cut _ _ (firsts_rise memory i j d le lt)

  pub region_at-rises : (i j : ℕ) → i ≤ j → j < object_count memory
      → region_at cut memory i ≤ region_at cut memory j
  region_at-rises i j le lt = regions_rise i j no_object le lt

  -- an object below the number of those in the regions before one is in such a region
  pub below_objects_before : (region index : ℕ) → index < object_count memory
      → index < objects_before cut memory region → region_at cut memory index < region
  below_objects_before region index inside lt =
      below_count_below (region_of cut) region index (objects memory) no_object regions_rise lt

  -- and one from that number on is not
  pub from_objects_before : (region index : ℕ) → objects_before cut memory region ≤ index
      → index < object_count memory → region ≤ region_at cut memory index
  from_objects_before region index le inside =
      from_count_below (region_of cut) region index (objects memory) no_object regions_rise le inside

  -- an object's region tells where it stands among those numbers
  pub objects_before_below : (region index : ℕ) → index < object_count memory
      → region_at cut memory index < region → index < objects_before cut memory region
  objects_before_below region index inside below =
      elim (cases_lt index (objects_before cut memory region)) [
        | inl lt ↦ lt
        | inr le ↦ absurd (omega (arith, from_objects_before region index le inside))
      ]

  pub objects_before_from : (region index : ℕ) → index < object_count memory
      → region ≤ region_at cut memory index → objects_before cut memory region ≤ index
  objects_before_from region index inside above =
      elim (cases_lt index (objects_before cut memory region)) [
        | inl lt ↦ absurd (omega (arith, below_objects_before region index inside lt))
        | inr le ↦ le
      ]

  -- the number of objects before a region never falls
  pub objects_before-rises : (low high : ℕ) → low ≤ high
      → objects_before cut memory low ≤ objects_before cut memory high
  objects_before-rises low high le = count_below_rises (region_of cut) low high (objects memory) le

  -- the objects from the number of those before a region up to that before the next are those of the region
  pub region_between : (region from to : ℕ)
      → from ≡ objects_before cut memory region → to ≡ objects_before cut memory (region + 1)
      → (index : ℕ) → index < object_count memory
      → ((from ≤ index) × (index < to)) ↔ (region_at cut memory index ≡ region)
  region_between region from to first end index inside = (
    λ within.
        let low = from_objects_before region index (omega (arith, first, within.0)) inside in
        let high = below_objects_before (region + 1) index inside (omega (arith, end, within.1)) in omega arith,
    λ is. (
      omega (arith, first, objects_before_from region index inside (omega (arith, is))),
      omega (arith, end, objects_before_below (region + 1) index inside (omega (arith, is))),
    ),
  )

  -- it is no more than all objects
  pub objects_before-le : (region : ℕ) → objects_before cut memory region ≤ object_count memory
  objects_before-le region = count_by-le-length _ (objects memory)

  -- none is before the first region
  pub objects_before-zero : objects_before cut memory 0 ≡ 0
  objects_before-zero = count_below-zero (region_of cut) (objects memory) no_object

  -- an object is in one of the regions
  pub region_at_inside : (index : ℕ) → IsValidCut cut → index < object_count memory
      → region_at cut memory index < region_count cut memory
  region_at_inside index valid inside =
      points_up_to_inside cut memory _ valid (first_inside memory index inside)

  -- all objects are before a region that each is below
  pub objects_before-all_below : (region : ℕ)
      → ((index : ℕ) → index < object_count memory → region_at cut memory index < region)
      → objects_before cut memory region ≡ object_count memory
  objects_before-all_below region below =
      count_below_all (region_of cut) region (objects memory) no_object regions_rise below

  -- all objects are before the region count
  pub objects_before-all : IsValidCut cut
      → objects_before cut memory (region_count cut memory) ≡ object_count memory
  objects_before-all valid =
      objects_before-all_below (region_count cut memory) (λ index inside. region_at_inside index valid inside)

-- ---- the ends of regions

-- the ends of the first `count` regions, and the last of them
pub record AreEndsSoFar (cut : Cutting) (memory : Memory) (count last : ℕ) (ends : List ℕ) : Type 0 where
  pub sized : length ends ≡ count
  pub each : (region : ℕ) → region < count → get_or ends region 0 ≡ objects_before cut memory (region + 1)
  pub last_is : last ≡ objects_before cut memory count

module _ (cut : Cutting) (memory : Memory) where
  -- no end yet
  pub no_end_yet : AreEndsSoFar cut memory 0 0 []
  no_end_yet =
      record {
        sized = refl;
        each = λ region lt. absurd (omega arith);
        last_is = sym (objects_before-zero cut memory);
      }

  -- one end more
  pub one_end_more : (count last next : ℕ) (ends : List ℕ)
      → AreEndsSoFar cut memory count last ends → next ≡ objects_before cut memory (count + 1)
      → AreEndsSoFar cut memory (count + 1) next (ends ++ next ∷ [])
  one_end_more count last next ends so_far is =
      record {
        sized = omega (arith, length_push ends next, so_far.sized);
        each =
            λ region lt.
            elim (cases_lt region count) [
              | inl before ↦
                  get_or-append ends (next ∷ []) 0 region (let sized = so_far.sized in omega arith)
                  ∙ so_far.each region before
              | inr ge ↦
                  (let same : region ≡ count = omega arith in
                  rw same (get_or_push ends next 0 count so_far.sized ∙ is))
            ];
        last_is = is;
      }

  -- one object more is known where it is in this region or in one before
  pub known_more : (region index word : ℕ) → index < object_count memory
      → word ≡ (object_at memory index).first → points_up_to cut word ≤ region
      → index + 1 ≤ objects_before cut memory (region + 1)
  known_more region index word inside is up_to =
      let here : region_at cut memory index ≤ region = rw is at up_to in
      omega (arith, objects_before_below cut memory (region + 1) index inside (omega arith))

  -- and all are known where it is not
  pub known_all : (region index word : ℕ) → index < object_count memory
      → word ≡ (object_at memory index).first → (points_up_to cut word ≤ region → ⊥)
      → index ≤ objects_before cut memory (region + 1) → index ≡ objects_before cut memory (region + 1)
  known_all region index word inside is above known =
      elim (cases_lt region (points_up_to cut word)) [
        | inl lt ↦
            (let here : region < region_at cut memory index = rw is at lt in
            omega (arith, objects_before_from cut memory (region + 1) index inside (omega arith)))
        | inr le ↦ absurd (above le)
      ]

  -- all ends
  pub all_ends : (count last : ℕ) (ends : List ℕ) → AreEndsSoFar cut memory count last ends
      → region_count cut memory ≡ count → AreEnds cut memory ends
  all_ends count last ends so_far is =
      record {
        sized = so_far.sized ∙ sym is;
        each = λ region lt. so_far.each region (omega arith);
      }

  -- an object of regions is in one of them
  pub region_inside : (regions : Regioning) (region index word : ℕ)
      → record { cut = cut; memory = memory } ≡ regions → IsValidCut cut → word ≡ (object_at memory index).first
      → region ≡ points_up_to cut word → index < object_count regions.memory
      → region < region_count regions.cut regions.memory
  region_inside regions region index word is valid word_is region_is =
      rw (← is, region_is, word_is) (λ inside. region_at_inside cut memory index valid inside)

  -- the regions before the end of a regioning are all objects
  pub all_objects_before : (regions : Regioning) (count : ℕ)
      → record { cut = cut; memory = memory } ≡ regions → IsValidCut cut
      → count ≡ region_count cut memory → objects_before regions.cut regions.memory count ≡ object_count regions.memory
  all_objects_before regions count is valid count_is =
      subst (λ (r : Regioning). objects_before r.cut r.memory count ≡ object_count r.memory) is
      (ap (objects_before cut memory) count_is ∙ objects_before-all cut memory valid)
