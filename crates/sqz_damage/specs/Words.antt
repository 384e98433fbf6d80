-- Where the words of objects are among the data words.
use Rattle.std.specs.Prelude.{ℕ, ◌+◌, ◌-◌, List, Option, Some, None}
use Rattle.sqz_object.specs.Chunk.{before}
use Rattle.sqz_image.specs.declared.slot.Slot.{Slot}
use Rattle.sqz_image.specs.declared.slot.Slot.TheVariants.{ClassWord, Field}
use Rattle.sqz_image.specs.Objects.{Object, header_index}

-- the index of a slot's word among the words of a chunk
abbrev pub slot_index : List ℕ → Slot → ℕ
slot_index chunk ClassWord = before chunk - 1
slot_index chunk (Field index) = before chunk + 1 + index

-- the index of the word of a slot of an object, or of its base header, among the data words
abbrev pub word_of : Object → Option Slot → ℕ
word_of object None = header_index object
word_of object (Some slot) = object.first + slot_index object.chunk slot
