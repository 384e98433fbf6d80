-- Groups: the objects of a class, or the objects without a class that have the same compact index.
use Rattle.std.specs.Prelude.{◌≡◌, ◌↔◌, ◌⊎◌, ℕ, ◌*◌, ◌<◌, ◌==◌, nat_lt, Bool, true, false, List, length}
use Rattle.std.specs.Prelude.{filter, slice_index_or, Option, Some, None}
use Rattle.std.specs.List.{Contains}
use Rattle.sqz_object.specs.Chunk.{compact_index}
use Rattle.sqz_image.specs.Objects.{Memory, Object, words_in}
use Rattle.sqz_trace.specs.declared.weak.Weak.{Weak}
use Rattle.sqz_trace.specs.Strong.{class_of}
use Rattle.sqz_trace.specs.Live.{live}
use Rattle.sqz_histogram.specs.declared.group.Group.{Group}
use Rattle.sqz_histogram.specs.declared.group.Group.TheVariants.{Class, Compact}

-- the number of compact indexes
abbrev pub compact_indexes : ℕ
compact_indexes = 32

abbrev pub is_same : Group → Group → Bool
is_same (Class one) (Class other) = one == other
is_same (Compact one) (Compact other) = one == other
is_same _ _ = false

-- the group of an object, by its class and its compact index
abbrev pub group_by : Option ℕ → ℕ → Group
group_by (Some class) compact = Class class
group_by None compact = Compact compact

abbrev pub group_of : Memory → Weak → List ℕ → Group
group_of memory weak chunk = group_by (class_of memory weak chunk) (compact_index chunk)

-- a group that some object may be in, given the number of objects
abbrev pub IsInside : ℕ → Group → Type 0
IsInside count (Class class) = class < count
IsInside count (Compact index) = index < compact_indexes

-- the marked objects of a group
abbrev pub members : Memory → Weak → List Bool → Group → List Object
members memory weak marks group = filter (λ object. is_same group (group_of memory weak object.chunk)) (live memory marks)

-- the bytes of their chunks, header words included
abbrev pub bytes_of : Memory → Weak → List Bool → Group → ℕ
bytes_of memory weak marks group = 4 * words_in (members memory weak marks group)

-- on a tie, classes come first, by their addresses, and then compact indexes
abbrev pub is_lower : (ℕ → ℕ) → Group → Group → Bool
is_lower address (Class one) (Class other) = nat_lt (address one) (address other)
is_lower address (Class one) (Compact other) = true
is_lower address (Compact one) (Class other) = false
is_lower address (Compact one) (Compact other) = nat_lt one other

-- the group with more bytes comes first
abbrev pub ComesBefore : Memory → Weak → List Bool → (ℕ → ℕ) → Group → Group → Type 0
ComesBefore memory weak marks address one other =
    (bytes_of memory weak marks other < bytes_of memory weak marks one)
    ⊎ ((bytes_of memory weak marks one ≡ bytes_of memory weak marks other) × (is_lower address one other ≡ true))

-- the groups that have a marked object, each once, in order; classes have these addresses
pub record AreGroups (memory : Memory) (weak : Weak) (marks : List Bool) (address : ℕ → ℕ) (groups : List Group) : Type 0 where
  pub all : (group : Group) → Contains groups group ↔ (0 < length (members memory weak marks group))
  pub ordered : (i j : ℕ) (d : Group) → i < j → j < length groups
      → ComesBefore memory weak marks address (slice_index_or groups i d) (slice_index_or groups j d)
