-- Where the live objects of each region go: after those of the regions before it.
use Rattle.std.specs.Prelude.{◌≡◌, ℕ, ◌+◌, ◌*◌, ◌<◌, Bool, if◌then◌else◌, List, length, take, sum, slice_index}
use Rattle.std.specs.Prelude.{slice_index_or, Option, Some, None}
use Rattle.sqz_image.specs.Objects.{Memory, object_count}
use Rattle.sqz_trace.specs.Graph.{is_marked}
use Rattle.sqz_regions.specs.Places.{place}
use Rattle.sqz_regions.specs.Regions.{Regioning, region_count, live_words_in}

-- the number of live words of each region
pub record AreSums (regions : Regioning) (marks : List Bool) (sums : List ℕ) : Type 0 where
  pub sized : length sums ≡ region_count regions.cut regions.memory
  pub each : (region : ℕ) → region < region_count regions.cut regions.memory
      → slice_index sums region ≡ live_words_in regions.cut regions.memory marks region

-- the first address of each part, if the parts follow one another from a base on, by their lengths
-- in words
pub record AreBases (base : ℕ) (sums bases : List ℕ) : Type 0 where
  pub sized : length bases ≡ length sums
  pub each : (part : ℕ) → part < length sums → slice_index bases part ≡ base + 4 * sum (take part sums)

-- the bases of the regions of marked objects
pub record AreBasesOf (regions : Regioning) (marks : List Bool) (bases : List ℕ) : Type 0 where
  pub sums : List ℕ
  pub are_sums : AreSums regions marks sums
  pub are_bases : AreBases regions.memory.base sums bases

-- the new address (place) of an object, if it is marked
abbrev pub place_if_marked : Memory → List Bool → ℕ → Option ℕ
place_if_marked memory marks index =
    if is_marked marks index then Some (place memory marks index) else None

-- for each object its new address, if it is marked
pub record ArePlacesOf (memory : Memory) (marks : List Bool) (places : List (Option ℕ)) : Type 0 where
  pub sized : length places ≡ object_count memory
  pub each : (index : ℕ) → index < object_count memory → slice_index_or places index None ≡ place_if_marked memory marks index
