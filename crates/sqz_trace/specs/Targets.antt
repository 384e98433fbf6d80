-- What the slots of an object point to.
use Rattle.std.specs.Prelude.{ℕ, List, Option, None, option_and_then}
use Rattle.sqz_object.specs.declared.value.Value.{Value}
use Rattle.sqz_object.specs.declared.value.Value.TheVariants.{Int, Pointer, Odd}
use Rattle.sqz_object.specs.Value.{value_of}
use Rattle.sqz_image.specs.declared.slot.Slot.{Slot}
use Rattle.sqz_image.specs.Objects.{Memory, chunk_words, find}
use Rattle.sqz_trace.specs.Slots.{traced, word_among}

-- the object that a value points to: the one with this address
abbrev pub object_named : Memory → Value → Option ℕ
object_named memory (Int number) = None
object_named memory (Pointer address) = find memory address
object_named memory (Odd word) = None

-- the object that the word of a slot points to
abbrev pub named_by : Memory → ℕ → Option ℕ
named_by memory word = object_named memory (value_of word)

-- the object that a slot points to, among the class word of a chunk and its first `count` fields
abbrev pub named_among : Memory → ℕ → List ℕ → Slot → Option ℕ
named_among memory count chunk slot = option_and_then (named_by memory) (word_among count chunk slot)

-- the object that a slot of a chunk points to; None also if the chunk has no such slot
abbrev pub named_in : Memory → List ℕ → Slot → Option ℕ
named_in memory chunk slot = named_among memory (traced chunk) chunk slot

-- the object that a slot of an object points to
abbrev pub target : Memory → ℕ → Slot → Option ℕ
target memory index slot = named_in memory (chunk_words memory index) slot
