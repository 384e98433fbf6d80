-- The census: the class histogram of the live objects, with the new addresses and the names of
-- classes.
use Rattle.std.specs.Prelude.{◌≡◌, ℕ, Bool, List, ◌++◌, map, length, codes, decimal, Option, Some, None}
use Rattle.sqz_image.specs.Objects.{Memory}
use Rattle.sqz_trace.specs.declared.weak.Weak.{Weak}
use Rattle.sqz_regions.specs.Places.{place}
use Rattle.sqz_histogram.specs.declared.group.Group.{Group}
use Rattle.sqz_histogram.specs.declared.group.Group.TheVariants.{Class, Compact}
use Rattle.sqz_histogram.specs.Names.{class_name}
use Rattle.sqz_histogram.specs.Groups.{members, bytes_of, AreGroups}

-- a row: the new address of the class, or a compact index; a name; and the number of objects and
-- bytes
pub record CensusRow : Type 0 where
  pub place : Option ℕ
  pub compact : ℕ
  pub name : List ℕ
  pub count : ℕ
  pub bytes : ℕ

-- the row of a group, with these new addresses of classes and numbers of objects and bytes
abbrev pub row_by : Memory → Weak → (ℕ → Option ℕ) → Group → ℕ → ℕ → CensusRow
row_by memory weak places (Class class) count bytes =
    record { place = places class; compact = 0; name = class_name memory weak class; count = count; bytes = bytes }
row_by memory weak places (Compact index) count bytes =
    record { place = None; compact = index; name = codes "compact " ++ decimal index; count = count; bytes = bytes }

abbrev pub row_of : Memory → Weak → List Bool → Group → CensusRow
row_of memory weak marks group =
    row_by memory weak (λ class. Some (place memory marks class)) group
    (length (members memory weak marks group)) (bytes_of memory weak marks group)

-- a row for each group that has a live object, in order; classes have their new addresses
pub record IsCensus (memory : Memory) (weak : Weak) (marks : List Bool) (rows : List CensusRow) : Type 0 where
  pub groups : List Group
  pub are : rows ≡ map (row_of memory weak marks) groups
  pub listed : AreGroups memory weak marks (place memory marks) groups
