-- The sums of a census: each live object is counted in one row.
-- Serves `laws::census_sums`.
use Rattle.std.proofs.Common.{◌≡◌, ◌*◌, Bool, List, length, refl, ap, ◌∙◌}
use Rattle.std.specs.List.{sum_by}
use Rattle.sqz_image.specs.Objects.{Memory}
use Rattle.sqz_trace.specs.declared.weak.Weak.{Weak}
use Rattle.sqz_trace.specs.Live.{live, live_words}
use Rattle.sqz_regions.specs.Places.{place}
use Rattle.sqz_histogram.specs.declared.group.Group.{Group}
use Rattle.sqz_histogram.specs.declared.group.Group.TheVariants.{Class, Compact}
use Rattle.sqz_histogram.specs.Groups.{bytes_of}
use Rattle.sqz_histogram.proofs.SumLemmas.{members_of, sum_by-map, sum-members, sum-bytes_of}
use Rattle.sqz_census.specs.Census.{CensusRow, row_of, IsCensus}

module _ (memory : Memory) (weak : Weak) (marks : List Bool) where
  row_count : (group : Group) → (row_of memory weak marks group).count ≡ members_of memory weak marks group
  row_count (Class class) = refl
  row_count (Compact index) = refl

  row_bytes : (group : Group) → (row_of memory weak marks group).bytes ≡ bytes_of memory weak marks group
  row_bytes (Class class) = refl
  row_bytes (Compact index) = refl

  module _ (rows : List CensusRow) (is : IsCensus memory weak marks rows) where
    -- the rows count each live object once
    pub census_counts : sum_by (λ row. row.count) rows ≡ length (live memory marks)
    census_counts =
        ap (sum_by (λ (row : CensusRow). row.count)) is.are
        ∙ sum_by-map (λ (row : CensusRow). row.count) (row_of memory weak marks) (members_of memory weak marks) row_count is.groups
        ∙ sum-members memory weak marks (place memory marks) is.groups is.listed

    -- and the bytes of its chunk
    pub census_bytes : sum_by (λ row. row.bytes) rows ≡ 4 * live_words memory marks
    census_bytes =
        ap (sum_by (λ (row : CensusRow). row.bytes)) is.are
        ∙ sum_by-map (λ (row : CensusRow). row.bytes) (row_of memory weak marks) (bytes_of memory weak marks) row_bytes is.groups
        ∙ sum-bytes_of memory weak marks (place memory marks) is.groups is.listed
