-- The objects whose addresses are near a word.
use Rattle.std.specs.Prelude.{ℕ, ◌^◌, ◌&&◌, not, bit_xor, Bool, true, false, if◌then◌else◌, List, [], ◌∷◌, Option, Some, None}
use Rattle.std.specs.List.{filter_map, range_with_len}
use Rattle.sqz_image.specs.declared.slot.Slot.{Slot}
use Rattle.sqz_image.specs.declared.slot.Slot.TheVariants.{ClassWord, Field}
use Rattle.sqz_image.specs.Objects.{Memory, find}
use Rattle.sqz_facts.specs.Classes.{can_be_class}

-- an object, if there is one; if `classes`, only if it can be a class
abbrev pub if_asked : Memory → Bool → Option ℕ → Option ℕ
if_asked memory classes None = None
if_asked memory classes (Some object) = if classes && not (can_be_class memory object) then None else Some object

-- the object whose address differs from a word in one bit, if there is one; if `classes`, only if it
-- can be a class
abbrev pub object_near : Memory → Bool → ℕ → ℕ → Option ℕ
object_near memory classes word bit = if_asked memory classes (find memory (bit_xor word (2 ^ bit)))

-- those for the lowest bits, as many as `count`
abbrev pub objects_near : Memory → Bool → ℕ → ℕ → List ℕ
objects_near memory classes word count = filter_map (object_near memory classes word) (range_with_len 0 count)

-- the only element of a list
abbrev pub only : List ℕ → Option ℕ
only (element ∷ []) = Some element
only _ = None

-- the only object whose address differs from a word of 32 bits in one bit; if `classes`, the only
-- one of these that can be a class
abbrev pub only_near : Memory → Bool → ℕ → Option ℕ
only_near memory classes word = only (objects_near memory classes word 32)

-- the first of two objects that there is
abbrev pub or_else : Option ℕ → Option ℕ → Option ℕ
or_else None other = other
or_else (Some object) other = Some object

-- the object near the word of a slot: of a class word a class, if only one is near
abbrev pub near_object : Memory → Slot → ℕ → Option ℕ
near_object memory ClassWord word = or_else (only_near memory true word) (only_near memory false word)
near_object memory (Field field) word = only_near memory false word
