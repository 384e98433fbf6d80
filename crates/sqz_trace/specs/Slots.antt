-- The slots of an object: its words that may point to other objects.
use Rattle.std.specs.Prelude.{ℕ, zero, suc, ◌+◌, ◌-◌, ◌/◌, ◌%◌, ◌^◌, nat_lt, min, ℤ, pos, negsuc}
use Rattle.std.specs.Prelude.{◌==◌, if◌then◌else◌, List, [], ◌∷◌, ◌++◌, length, slice_index}
use Rattle.std.specs.Prelude.{Option, Some, None, option_map}
use Rattle.sqz_object.specs.declared.value.Value.{Value}
use Rattle.sqz_object.specs.declared.value.Value.TheVariants.{Int, Pointer, Odd}
use Rattle.sqz_object.specs.declared.chunk.Kind.{Kind}
use Rattle.sqz_object.specs.declared.chunk.Kind.TheVariants.{Three, Two, Free, Short}
use Rattle.sqz_object.specs.Value.{value_of}
use Rattle.sqz_object.specs.Chunk.{chunk_kind, fields}
use Rattle.sqz_object.specs.declared.layout.Layout.{Layout}
use Rattle.sqz_object.specs.declared.layout.Layout.TheVariants.{Fields, Weak, Context, Words, Bytes, Method}
use Rattle.sqz_object.specs.Layout.{layout}
use Rattle.sqz_image.specs.declared.slot.Slot.{Slot}
use Rattle.sqz_image.specs.declared.slot.Slot.TheVariants.{ClassWord, Field}

-- the stack pointer that a word states: the value of a SmallInteger, and 0 for any other word
abbrev pub stack_pointer : Value → ℤ
stack_pointer (Int number) = number
stack_pointer (Pointer word) = pos 0
stack_pointer (Odd word) = pos 0

-- the number of fields up to the top of the stack: six fixed ones and the stack; None if the stack
-- pointer is negative
abbrev pub fields_to_top : ℤ → Option ℕ
fields_to_top (pos top) = Some (6 + top)
fields_to_top (negsuc below) = None

-- the number of traced fields that a context states, by its fields; None if it states no number
abbrev pub context_fields : List ℕ → Option ℕ
context_fields (_ ∷ _ ∷ top ∷ _) = fields_to_top (stack_pointer (value_of top))
context_fields _ = None

-- field 0 of a method is a SmallInteger whose word has the number of literals in its bits 10 to 17
abbrev pub literals_of : ℕ → Option ℕ
literals_of header = if header % 2 == 1 then Some (header / 2 ^ 10 % 2 ^ 8) else None

-- the number of traced fields that a method states, by its fields: the header and the literals
abbrev pub method_fields : List ℕ → Option ℕ
method_fields [] = None
method_fields (header ∷ _) = option_map (λ count. 1 + count) (literals_of header)

-- the stated number, but no more than there are; 0 if no number is stated
abbrev pub clip : Option ℕ → ℕ → ℕ
clip None count = 0
clip (Some stated) count = min count stated

-- the number of these fields that are traced in an object with this layout, from field 0 on
abbrev pub traced_of : Layout → List ℕ → ℕ
traced_of Fields fields = length fields
traced_of Weak fields = length fields
traced_of Context fields = clip (context_fields fields) (length fields)
traced_of Words fields = 0
traced_of (Bytes unused) fields = 0
traced_of Method fields = clip (method_fields fields) (length fields)

-- the number of traced fields of an object, from field 0 on
abbrev pub traced : List ℕ → ℕ
traced chunk = traced_of (layout chunk) (fields chunk)

-- the address in a class word, whose low two bits are a header type
abbrev pub class_address : ℕ → ℕ
class_address word = word - word % 4

-- the class word of a header of two or three words
abbrev pub class_word : Kind → List ℕ → Option ℕ
class_word Three chunk = Some (slice_index chunk 1)
class_word Two chunk = Some (slice_index chunk 0)
class_word Free chunk = None
class_word Short chunk = None

-- the word that a slot holds, among the class word of an object and its first `count` fields; for
-- the class word it is the address in it. None if there is no such slot
abbrev pub word_among : ℕ → List ℕ → Slot → Option ℕ
word_among count chunk ClassWord = option_map class_address (class_word (chunk_kind chunk) chunk)
word_among count chunk (Field index) =
    if nat_lt index count then Some (slice_index (fields chunk) index) else None

-- the word that a slot of an object holds: its class word, or one of its traced fields
abbrev pub slot_word : List ℕ → Slot → Option ℕ
slot_word chunk slot = word_among (traced chunk) chunk slot

-- the slot of the class word, if the kind has one
abbrev pub class_slots : Kind → List Slot
class_slots Three = ClassWord ∷ []
class_slots Two = ClassWord ∷ []
class_slots Free = []
class_slots Short = []

-- the slots of `count` fields, from field `index` on
abbrev pub field_slots : ℕ → ℕ → List Slot
field_slots index zero = []
field_slots index (suc count) = Field index ∷ field_slots (suc index) count

-- the slots of an object: its class word, if it has one, and then its traced fields
abbrev pub slots : List ℕ → List Slot
slots chunk = class_slots (chunk_kind chunk) ++ field_slots 0 (traced chunk)
