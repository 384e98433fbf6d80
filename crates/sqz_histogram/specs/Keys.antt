-- Groups as numbers (keys), by which the code counts: the index of a class, or the number of
-- objects plus a compact index.
use Rattle.std.specs.Prelude.{◌≡◌, ℕ, ◌+◌, ◌-◌, ◌<◌, nat_lt, Bool, true, false, if◌then◌else◌, List, length}
use Rattle.std.specs.Prelude.{slice_index_or, Option, None}
use Rattle.sqz_image.specs.Objects.{Memory, object_count, chunk_words}
use Rattle.sqz_trace.specs.declared.weak.Weak.{Weak}
use Rattle.sqz_trace.specs.Strong.{compact_class}
use Rattle.sqz_trace.specs.Graph.{is_marked}
use Rattle.sqz_histogram.specs.declared.entries.Entry.{Entry}
use Rattle.sqz_histogram.specs.declared.group.Group.{Group}
use Rattle.sqz_histogram.specs.declared.group.Group.TheVariants.{Class, Compact}
use Rattle.sqz_histogram.specs.Groups.{compact_indexes, group_of}

-- the class that each compact index stands for
pub record AreCompactClasses (memory : Memory) (weak : Weak) (classes : List (Option ℕ)) : Type 0 where
  pub sized : length classes ≡ compact_indexes
  pub each : (index : ℕ) → index < compact_indexes → slice_index_or classes index None ≡ compact_class memory weak index

-- the key of a group, given the number of objects
abbrev pub key_of : ℕ → Group → ℕ
key_of count (Class class) = class
key_of count (Compact index) = count + index

-- the group with a key
abbrev pub group_with : ℕ → ℕ → Group
group_with count key = if nat_lt key count then Class key else Compact (key - count)

-- the number of keys
abbrev pub key_count : Memory → ℕ
key_count memory = object_count memory + compact_indexes

-- the key of an object that is not marked
abbrev pub no_group : ℕ
no_group = 4294967295

-- what is kept of a marked object: its group's key, and the length of its chunk in words
pub record IsLiveEntry (memory : Memory) (weak : Weak) (index : ℕ) (entry : Entry) : Type 0 where
  pub key : entry.key ≡ key_of (object_count memory) (group_of memory weak (chunk_words memory index))
  pub words : entry.words ≡ length (chunk_words memory index)

-- what is kept of an object
pub record IsEntryOf (memory : Memory) (weak : Weak) (marks : List Bool) (index : ℕ) (entry : Entry) : Type 0 where
  pub marked : is_marked marks index ≡ true → IsLiveEntry memory weak index entry
  pub unmarked : is_marked marks index ≡ false → entry.key ≡ no_group

abbrev pub no_entry : Entry
no_entry = record { key = 0; words = 0 }

-- an entry for each object
pub record AreEntries (memory : Memory) (weak : Weak) (marks : List Bool) (entries : List Entry) : Type 0 where
  pub sized : length entries ≡ object_count memory
  pub each : (index : ℕ) → index < object_count memory → IsEntryOf memory weak marks index (slice_index_or entries index no_entry)
