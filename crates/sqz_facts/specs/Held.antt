-- What a slot of an object holds.
use Rattle.std.specs.Prelude.{◌≡◌, ◌<◌, ℕ, nat_lt, nat_le, Bool, true, false, if◌then◌else◌, List, Option, Some, None}
use Rattle.std.specs.Prelude.{option_map}
use Rattle.sqz_object.specs.declared.value.Value.{Value}
use Rattle.sqz_object.specs.declared.value.Value.TheVariants.{Int, Pointer, Odd}
use Rattle.sqz_object.specs.Value.{value_of}
use Rattle.sqz_image.specs.declared.slot.Slot.{Slot}
use Rattle.sqz_image.specs.Objects.{Memory, chunk_words, find}
use Rattle.sqz_trace.specs.declared.weak.Weak.TheVariants.{Clear}
use Rattle.sqz_trace.specs.Slots.{slot_word, traced}
use Rattle.sqz_trace.specs.Strong.{strong}
use Rattle.sqz_trace.specs.Targets.{target}
use Rattle.sqz_trace.specs.Edges.{strong_target}
use Rattle.sqz_trace.specs.Defects.{is_bad_word}
use Rattle.sqz_facts.specs.declared.slots.Held.{Held}
use Rattle.sqz_facts.specs.declared.slots.Held.TheVariants as held

-- a slot of an object holds this. A pointer is strong if its slot is strong when weak slots are
-- cleared. At most one of these facts holds (`laws::one_held`)
abbrev pub IsHeld : Memory → ℕ → Slot → Held → Type 0
IsHeld memory object slot (held.Pointer other) = strong_target memory Clear object slot ≡ Some other
IsHeld memory object slot (held.Weak other) =
    (target memory object slot ≡ Some other) × (strong_target memory Clear object slot ≡ None)
IsHeld memory object slot (held.Integer number) =
    option_map value_of (slot_word (chunk_words memory object) slot) ≡ Some (Int number)
IsHeld memory object slot held.Untraced = slot_word (chunk_words memory object) slot ≡ None
IsHeld memory object slot held.Bad = is_bad_word memory (slot_word (chunk_words memory object) slot) ≡ true

-- an object that is pointed to has an index below the number of objects
abbrev pub PointsBelow : ℕ → Held → Type 0
PointsBelow count (held.Pointer other) = other < count
PointsBelow count (held.Weak other) = other < count
PointsBelow count (held.Integer number) = Unit {0}
PointsBelow count held.Untraced = Unit {0}
PointsBelow count held.Bad = Unit {0}

-- ---- by the word

-- what a slot holds whose word is the address of this object, if it is the address of one
abbrev pub held_at : Bool → Option ℕ → Held
held_at weak None = held.Bad
held_at true (Some other) = held.Weak other
held_at false (Some other) = held.Pointer other

-- what a value in a traced slot means, by whether the slot is weak
abbrev pub held_by : Memory → Bool → Value → Held
held_by memory weak (Int number) = held.Integer number
held_by memory weak (Pointer address) = held_at weak (find memory address)
held_by memory weak (Odd word) = held.Bad

-- what a word in a field of a chunk means
abbrev pub held_in : Memory → List ℕ → ℕ → ℕ → Held
held_in memory chunk field word =
    if nat_lt field (traced chunk) then held_by memory (nat_le (strong memory Clear chunk) field) (value_of word) else held.Untraced
