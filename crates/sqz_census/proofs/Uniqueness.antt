-- Marked objects have only one census.
-- Serves `laws::one_census`.
use Rattle.std.proofs.Common.{◌≡◌, Bool, List, map, sym, ap, ◌∙◌}
use Rattle.sqz_image.specs.Objects.{Memory}
use Rattle.sqz_trace.specs.declared.weak.Weak.{Weak}
use Rattle.sqz_regions.specs.Places.{place}
use Rattle.sqz_histogram.proofs.Uniqueness.{AreGroups-unique}
use Rattle.sqz_census.specs.Census.{CensusRow, row_of, IsCensus}

module _ (memory : Memory) (weak : Weak) (marks : List Bool) where
  pub IsCensus-unique : (rows others : List CensusRow)
      → IsCensus memory weak marks rows → IsCensus memory weak marks others → rows ≡ others
  IsCensus-unique rows others one other =
      let groups = AreGroups-unique memory weak marks (place memory marks) one.groups other.groups one.listed other.listed in
      one.are ∙ ap (map (row_of memory weak marks)) groups ∙ sym other.are
