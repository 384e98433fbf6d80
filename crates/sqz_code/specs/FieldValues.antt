-- What fields hold: SmallIntegers, and pointers along several objects.
use Rattle.std.specs.Prelude.{ℕ, ℤ, Option, Some, None, option_and_then}
use Rattle.sqz_object.specs.declared.value.Value.{Value}
use Rattle.sqz_object.specs.declared.value.Value.TheVariants.{Int, Pointer, Odd}
use Rattle.sqz_object.specs.Value.{value_of}
use Rattle.sqz_image.specs.declared.slot.Slot.TheVariants.{Field}
use Rattle.sqz_image.specs.Objects.{Memory, chunk_words}
use Rattle.sqz_trace.specs.Slots.{slot_word}
use Rattle.sqz_trace.specs.Targets.{target}

-- a SmallInteger
abbrev pub if_integer : Value → Option ℤ
if_integer (Int number) = Some number
if_integer (Pointer address) = None
if_integer (Odd word) = None

-- the SmallInteger in a traced field of an object
abbrev pub integer_in : Memory → ℕ → ℕ → Option ℤ
integer_in memory object field =
    option_and_then (λ word. if_integer (value_of word)) (slot_word (chunk_words memory object) (Field field))

-- the object that a traced field of an object points to, if there is such an object
abbrev pub along : Memory → ℕ → Option ℕ → Option ℕ
along memory field object = option_and_then (λ found. target memory found (Field field)) object
