-- The number of marked objects of each group, by its key.
use Rattle.std.specs.Prelude.{◌≡◌, ℕ, ◌^◌, ◌<◌, Bool, List, length, take, filter, slice_index_or}
use Rattle.sqz_image.specs.Objects.{Memory, Object, objects, object_count, words_in}
use Rattle.sqz_trace.specs.declared.weak.Weak.{Weak}
use Rattle.sqz_trace.specs.Live.{marked, live}
use Rattle.sqz_histogram.specs.declared.tallies.Tally.{Tally}
use Rattle.sqz_histogram.specs.declared.group.Group.{Group}
use Rattle.sqz_histogram.specs.Groups.{is_same, group_of}
use Rattle.sqz_histogram.specs.Keys.{group_with, key_count}

-- the number of these objects that belong to a group, and their total length in words
abbrev pub tally_in : Memory → Weak → List Object → Group → Tally
tally_in memory weak objects group =
    record {
      count = length (filter (λ object. is_same group (group_of memory weak object.chunk)) objects);
      words = words_in (filter (λ object. is_same group (group_of memory weak object.chunk)) objects);
    }

abbrev pub no_tally : Tally
no_tally = record { count = 0; words = 0 }

-- the tallies of some objects, by key
pub record AreTalliesOf (memory : Memory) (weak : Weak) (objects : List Object) (tallies : List Tally) : Type 0 where
  pub sized : length tallies ≡ key_count memory
  pub each : (key : ℕ) → key < key_count memory
      → slice_index_or tallies key no_tally ≡ tally_in memory weak objects (group_with (object_count memory) key)

-- the tallies of the marked objects below an index
abbrev pub AreTalliesBelow : Memory → Weak → List Bool → ℕ → List Tally → Type 0
AreTalliesBelow memory weak marks index = AreTalliesOf memory weak (marked (take index marks) (take index (objects memory)))

-- the tallies of all marked objects
abbrev pub AreTallies : Memory → Weak → List Bool → List Tally → Type 0
AreTallies memory weak marks = AreTalliesOf memory weak (live memory marks)

-- keys and words fit in 32 bits
pub record FitWords (tallies : List Tally) : Type 0 where
  pub sized : length tallies < 2 ^ 32
  pub each : (key : ℕ) → key < length tallies → (slice_index_or tallies key no_tally).words < 2 ^ 32
