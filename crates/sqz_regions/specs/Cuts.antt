-- Which cuts are valid, and what contracts see of one.
use Rattle.std.specs.Prelude.{ℕ, ◌^◌, ◌<◌, ◌≤◌, List, length, slice_index}
use Rattle.sqz_regions.specs.declared.cut.Division.{Division}
use Rattle.sqz_regions.specs.declared.cut.Division.TheVariants as divisions
use Rattle.sqz_regions.specs.Regions.{Cutting, Every, At}

-- each point is above the one before, and none above 2 ^ 30
pub record IsCutList (points : List ℕ) : Type 0 where
  pub rises : (i j : ℕ) → i < j → j < length points → slice_index points i < slice_index points j
  pub bounded : (i : ℕ) → i < length points → slice_index points i ≤ 2 ^ 30

-- at each multiple of 1 to 2 ^ 30 words, or at such points
abbrev pub IsValidCut : Cutting → Type 0
IsValidCut (Every words) = (1 ≤ words) × (words ≤ 2 ^ 30)
IsValidCut (At points) = IsCutList points

-- what contracts see of a cut
abbrev pub cutting_of : Division → Cutting
cutting_of (divisions.Every words) = Every words
cutting_of (divisions.At points) = At points.items
