-- How the table of new addresses is built: its entries, and the ranges of objects for which they
-- are made.
use Rattle.std.specs.Prelude.{◌≡◌, ◌≢◌, ℕ, ◌+◌, ◌-◌, ◌*◌, ◌^◌, ◌<◌, ◌≤◌, nat_lt, Bool, true, if◌then◌else◌, List}
use Rattle.std.specs.Prelude.{map, length, slice_index}
use Rattle.std.specs.List.{range_with_len}
use Rattle.sqz_image.specs.Objects.{Memory, object_count}
use Rattle.sqz_trace.specs.Graph.{is_marked}
use Rattle.sqz_regions.specs.Places.{place, no_place}
use Rattle.sqz_regions.specs.Regions.{Cutting, region_at, objects_before}

-- the entry of an object: its new address, if it is marked
abbrev pub entry_of : Memory → List Bool → ℕ → ℕ
entry_of memory marks index = if is_marked marks index then place memory marks index else no_place

-- the entries of the objects from one up to another, which is excluded
abbrev pub entries_between : Memory → List Bool → ℕ → ℕ → List ℕ
entries_between memory marks from to = map (entry_of memory marks) (range_with_len from (to - from))

-- at each new address there is room for a word
abbrev pub HaveRoom : List ℕ → Type 0
HaveRoom entries =
    (index : ℕ) → index < length entries → slice_index entries index ≢ no_place → slice_index entries index + 4 ≤ 2 ^ 32

-- the entries of the objects from one up to another; at each new address there is room for a word
pub record AreEntriesOf (memory : Memory) (marks : List Bool) (from to : ℕ) (entries : List ℕ) : Type 0 where
  pub same : entries ≡ entries_between memory marks from to
  pub room : (index : ℕ) → from ≤ index → index < to → is_marked marks index ≡ true → place memory marks index + 4 ≤ 2 ^ 32

-- the object with which a range begins: the first one of the region that each 4096th object is in
abbrev pub range_begin : Cutting → Memory → ℕ → ℕ
range_begin cut memory range =
    if nat_lt (range * 4096) (object_count memory) then objects_before cut memory (region_at cut memory (range * 4096))
    else object_count memory

-- the entries of the objects of a range
abbrev pub AreEntriesOfRange : Cutting → Memory → List Bool → ℕ → List ℕ → Type 0
AreEntriesOfRange cut memory marks range entries =
    AreEntriesOf memory marks (range_begin cut memory range) (range_begin cut memory (range + 1)) entries
