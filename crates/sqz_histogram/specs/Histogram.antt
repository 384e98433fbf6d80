-- The class histogram: the number of marked objects of each group, and the bytes of their chunks.
use Rattle.std.specs.Prelude.{◌≡◌, Bool, List, map, length}
use Rattle.sqz_image.specs.Objects.{Memory, address_of}
use Rattle.sqz_trace.specs.declared.weak.Weak.{Weak}
use Rattle.sqz_histogram.specs.declared.group.Group.{Group}
use Rattle.sqz_histogram.specs.declared.group.GroupTotal.{GroupTotal}
use Rattle.sqz_histogram.specs.Groups.{members, bytes_of, AreGroups}

-- the total of a group
abbrev pub total_of : Memory → Weak → List Bool → Group → GroupTotal
total_of memory weak marks group =
    record { group = group; count = length (members memory weak marks group); bytes = bytes_of memory weak marks group }

-- a total for each group that has a marked object, in order; classes have their addresses in this
-- memory
pub record IsHistogram (memory : Memory) (weak : Weak) (marks : List Bool) (totals : List GroupTotal) : Type 0 where
  pub groups : List Group
  pub are : totals ≡ map (total_of memory weak marks) groups
  pub listed : AreGroups memory weak marks (address_of memory) groups
