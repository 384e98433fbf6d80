-- What contracts see of a row, and the row of a total.
use Rattle.std.specs.Prelude.{ℕ, List, slice_index_or, Option, None}
use Rattle.sqz_image.specs.Objects.{Memory}
use Rattle.sqz_trace.specs.declared.weak.Weak.{Weak}
use Rattle.sqz_histogram.specs.declared.group.GroupTotal.{GroupTotal}
use Rattle.sqz_census.specs.declared.row.Row.{Row}
use Rattle.sqz_census.specs.Census.{CensusRow, row_by}

abbrev pub shown : Row → CensusRow
shown row =
    record { place = row.place; compact = row.compact; name = row.name.items; count = row.count; bytes = row.bytes }

-- the row of a total, by a list of new addresses
abbrev pub row_at : Memory → Weak → List (Option ℕ) → GroupTotal → CensusRow
row_at memory weak places total =
    row_by memory weak (λ class. slice_index_or places class None) total.group total.count total.bytes
