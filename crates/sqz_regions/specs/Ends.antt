-- What is kept of regions: the number of objects up to the end of each.
use Rattle.std.specs.Prelude.{◌≡◌, ℕ, ◌+◌, ◌<◌, List, length, slice_index}
use Rattle.sqz_image.specs.Objects.{Memory}
use Rattle.sqz_regions.specs.Regions.{Cutting, region_count, objects_before}

-- for each region, the number of objects in it and in the regions before it
pub record AreEnds (cut : Cutting) (memory : Memory) (ends : List ℕ) : Type 0 where
  pub sized : length ends ≡ region_count cut memory
  pub each : (region : ℕ) → region < region_count cut memory → slice_index ends region ≡ objects_before cut memory (region + 1)
