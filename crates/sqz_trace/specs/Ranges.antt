-- The first defect among the marked objects of a range of indexes.
use Rattle.std.specs.Prelude.{ℕ, ◌+◌, ◌-◌, ◌*◌, min, Bool, if◌then◌else◌, List, map, Option, None}
use Rattle.std.specs.List.{range_with_len}
use Rattle.sqz_image.specs.declared.fault.Fault.{Fault}
use Rattle.sqz_image.specs.Objects.{Memory, object_at}
use Rattle.sqz_trace.specs.declared.weak.Weak.{Weak}
use Rattle.sqz_trace.specs.Graph.{is_marked}
use Rattle.sqz_trace.specs.Defects.{defect, first_some}

-- what to report for the object with an index: its defect, if it is marked and has one
abbrev pub defect_at : Memory → Weak → List Bool → ℕ → Option Fault
defect_at memory weak marks index = if is_marked marks index then defect memory weak (object_at memory index) else None

-- the first report among the indexes from one up to another, which is excluded
abbrev pub first_between : {X : Type 0} → (ℕ → Option X) → ℕ → ℕ → Option X
first_between report from to = first_some (map report (range_with_len from (to - from)))

-- the first report of the range with this number; ranges have this width, and the last one ends at
-- the count
abbrev pub first_in_range : {X : Type 0} → (ℕ → Option X) → ℕ → ℕ → ℕ → Option X
first_in_range report width count range =
    first_between report (range * width) (min (range * width + width) count)
