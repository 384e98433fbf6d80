-- What a step of the walk adds to the hash.
use Rattle.std.specs.Prelude.{◌≡◌, ◌≤◌, ℕ, List, ◌∷◌, ◌++◌, length, take, flat_map}
use Rattle.sha2.specs.declared.Sha256.{Sha256}
use Rattle.sha2.specs.Hashers.{Holds256}
use Rattle.sqz_image.specs.declared.slot.Slot.{Slot}
use Rattle.sqz_image.specs.declared.slot.Slot.TheVariants.{ClassWord}
use Rattle.sqz_image.specs.Objects.{chunk_words}
use Rattle.sqz_trace.specs.declared.live_objects.Live.{Live}
use Rattle.sqz_trace.specs.Slots.{field_slots}
use Rattle.sqz_alike.specs.Seen.{Seen, seen}
use Rattle.sqz_alike.specs.declared.hashing.walk.Walk.{Walk}
use Rattle.sqz_alike.specs.Found.{slots_of, with_targets, found_after}
use Rattle.sqz_alike.specs.Numbering.{NumbersFound}
use Rattle.sqz_alike.specs.Written.{slot_bytes, object_bytes}

-- the hasher takes these bytes
pub record Takes (before after : Sha256) (bytes : List ℕ) : Type 0 where
  pub taken : (message : List ℕ) → Holds256 before message → Holds256 after (message ++ bytes)

-- the walk finds what these slots of an object lead to, and the hasher takes the slots. What is
-- found later does not change what it takes
pub record HashesSlots (seen : Seen) (object : ℕ) (slots : List Slot) (old new : List ℕ) (before after : Sha256) : Type 0 where
  pub found : new ≡ with_targets seen object old slots
  pub taken : (later : List ℕ) → Takes before after (flat_map (slot_bytes seen (new ++ later) object) slots)

-- the walk visits an object, and the hasher takes it
pub record HashesObject (seen : Seen) (object : ℕ) (old new : List ℕ) (before after : Sha256) : Type 0 where
  pub found : new ≡ with_targets seen object old (slots_of (chunk_words seen.memory object))
  pub taken : (later : List ℕ) → Takes before after (object_bytes seen (new ++ later) object)

-- the class word and the first `count` fields of an object are hashed
pub record AreSlotsHashed (live : Live) (object count : ℕ) (old new : Walk) (before after : Sha256) : Type 0 where
  pub walk : NumbersFound live new
  pub slots : HashesSlots (seen live) object (ClassWord ∷ field_slots 0 count) old.found.items new.found.items before after

-- the objects at the first `count` places are visited and hashed
pub record IsHashed (live : Live) (count : ℕ) (walk : Walk) (hasher : Sha256) : Type 0 where
  pub kept : NumbersFound live walk
  pub found : walk.found.items ≡ found_after (seen live) count
  pub within : count ≤ length walk.found.items
  pub holds : (later : List ℕ)
      → Holds256 hasher (flat_map (object_bytes (seen live) (walk.found.items ++ later)) (take count walk.found.items))
