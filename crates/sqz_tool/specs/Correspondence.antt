-- The objects of a compacted memory: the marked objects of the original memory, in order, each
-- moved to its new address, with the same edges.
use Rattle.std.specs.Prelude.{◌≡◌, ◌↔◌, ℕ, ◌<◌, Bool, true, List, length, take, Some, option_map}
use Rattle.sqz_image.specs.declared.slot.Slot.{Slot}
use Rattle.sqz_image.specs.Objects.{Memory, objects, object_count, chunk_words, address_of, find}
use Rattle.sqz_trace.specs.declared.weak.Weak.{Weak}
use Rattle.sqz_trace.specs.Edges.{strong_target, HasEdge}
use Rattle.sqz_trace.specs.Graph.{is_marked}
use Rattle.sqz_trace.specs.Live.{marked, live}
use Rattle.sqz_regions.specs.Places.{place}
use Rattle.sqz_slide.specs.Moved.{moved}

-- the number of marked objects below an index: the index, after the move, of the object with that
-- index
abbrev pub new_index : Memory → List Bool → ℕ → ℕ
new_index memory marks index = length (marked (take index marks) (take index (objects memory)))

-- an object after the move: it is at its new address, with its words after the move, and each
-- strong slot points to the same object as before
pub record IsMovedObject (memory : Memory) (weak : Weak) (marks : List Bool) (after : Memory) (index : ℕ) : Type 0 where
  pub inside : new_index memory marks index < object_count after
  pub words : chunk_words after (new_index memory marks index) ≡ moved memory weak marks (chunk_words memory index)
  pub address : address_of after (new_index memory marks index) ≡ place memory marks index
  pub targets : (slot : Slot) → strong_target after weak (new_index memory marks index) slot
      ≡ option_map (new_index memory marks) (strong_target memory weak index slot)

-- a marked object that has this index after the move
pub record HasOldIndex (memory : Memory) (marks : List Bool) (index : ℕ) : Type 0 where
  pub old : ℕ
  pub kept : is_marked marks old ≡ true
  pub same : new_index memory marks old ≡ index

-- an edge from an object to a marked one that has this index after the move
pub record HasOldEdge (memory : Memory) (weak : Weak) (marks : List Bool) (from next : ℕ) : Type 0 where
  pub to : ℕ
  pub kept : is_marked marks to ≡ true
  pub edge : HasEdge memory weak from to
  pub same : new_index memory marks to ≡ next

-- the objects after the move are the marked ones, in order, with the same special objects array
-- and the same edges
pub record HasMovedObjects (memory : Memory) (weak : Weak) (marks : List Bool) (after : Memory) : Type 0 where
  pub count : object_count after ≡ length (live memory marks)
  pub each : (index : ℕ) → is_marked marks index ≡ true → IsMovedObject memory weak marks after index
  pub onto : (index : ℕ) → index < object_count after → HasOldIndex memory marks index
  pub ordered : (one other : ℕ) → is_marked marks one ≡ true → one < other → new_index memory marks one < new_index memory marks other
  pub special : (index : ℕ) → find memory memory.special ≡ Some index → find after after.special ≡ Some (new_index memory marks index)
  pub edges : (from to : ℕ) → is_marked marks from ≡ true → is_marked marks to ≡ true
      → HasEdge memory weak from to ↔ HasEdge after weak (new_index memory marks from) (new_index memory marks to)
  pub onto_edges : (from next : ℕ) → is_marked marks from ≡ true → HasEdge after weak (new_index memory marks from) next
      → HasOldEdge memory weak marks from next
