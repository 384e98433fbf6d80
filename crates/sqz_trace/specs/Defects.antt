-- What is wrong with an object or with an object memory: faults 11 to 14, 20 and 21.
use Rattle.std.specs.Prelude.{ℕ, ◌==◌, ◌&&◌, nat_lt, Bool, true, false, if◌then◌else◌, List, [], ◌∷◌, length, map}
use Rattle.std.specs.Prelude.{slice_index, Option, Some, None, is_none}
use Rattle.sqz_object.specs.declared.value.Value.{Value}
use Rattle.sqz_object.specs.declared.value.Value.TheVariants.{Int, Pointer, Odd}
use Rattle.sqz_object.specs.Value.{value_of}
use Rattle.sqz_object.specs.Chunk.{header_type, compact_index, fields}
use Rattle.sqz_object.specs.declared.layout.Layout.{Layout}
use Rattle.sqz_object.specs.declared.layout.Layout.TheVariants.{Context, Method}
use Rattle.sqz_object.specs.Layout.{layout}
use Rattle.sqz_image.specs.declared.fault.Fault.{Fault}
use Rattle.sqz_image.specs.declared.fault.Fault.TheVariants.{NoClass, BadMethod, BadContext, BadWeak, BadPointer}
use Rattle.sqz_image.specs.declared.slot.Slot.{Slot}
use Rattle.sqz_image.specs.Objects.{Memory, Object, address_in, find}
use Rattle.sqz_trace.specs.declared.weak.Weak.{Weak}
use Rattle.sqz_trace.specs.declared.weak.Weak.TheVariants.{Keep, Clear}
use Rattle.sqz_trace.specs.Slots.{slots, slot_word, context_fields, method_fields}
use Rattle.sqz_trace.specs.Strong.{is_weak, fixed_by, class_of}
use Rattle.sqz_trace.specs.Edges.{nil}
use Rattle.sqz_trace.specs.Live.{live}

-- a header of one word with compact index 0 has no class
abbrev pub lacks_class : List ℕ → Bool
lacks_class chunk = header_type (slice_index chunk 0) == 3 && compact_index chunk == 0

-- an object is bad if no number of fields is stated, or more than it has
abbrev pub states_too_many : Option ℕ → ℕ → Bool
states_too_many None count = true
states_too_many (Some stated) count = nat_lt count stated

-- whether an object with this layout and these fields is a bad method
abbrev pub is_bad_method_in : Layout → List ℕ → Bool
is_bad_method_in Method fields = states_too_many (method_fields fields) (length fields)
is_bad_method_in _ fields = false

abbrev pub is_bad_method : List ℕ → Bool
is_bad_method chunk = is_bad_method_in (layout chunk) (fields chunk)

-- whether an object with this layout and these fields is a bad context
abbrev pub is_bad_context_in : Layout → List ℕ → Bool
is_bad_context_in Context fields = states_too_many (context_fields fields) (length fields)
is_bad_context_in _ fields = false

abbrev pub is_bad_context : List ℕ → Bool
is_bad_context chunk = is_bad_context_in (layout chunk) (fields chunk)

-- a weak object is bad if its class states no number of fixed fields, or more than the object has
abbrev pub is_bad_weak : Memory → Weak → List ℕ → Bool
is_bad_weak memory weak chunk =
    is_weak weak chunk && states_too_many (fixed_by memory (class_of memory weak chunk)) (length (fields chunk))

-- a value that is neither a SmallInteger nor the address of an object
abbrev pub is_bad_value : Memory → Value → Bool
is_bad_value memory (Int number) = false
is_bad_value memory (Pointer address) = is_none (find memory address)
is_bad_value memory (Odd word) = true

-- the word that a slot holds is bad
abbrev pub is_bad_word : Memory → Option ℕ → Bool
is_bad_word memory None = false
is_bad_word memory (Some word) = is_bad_value memory (value_of word)

-- the first of these slots of a chunk that holds a bad word
abbrev pub first_bad : Memory → List ℕ → List Slot → Option Slot
first_bad memory chunk [] = None
first_bad memory chunk (slot ∷ slots) =
    if is_bad_word memory (slot_word chunk slot) then Some slot else first_bad memory chunk slots

-- the first slot that holds a bad word
abbrev pub bad_slot : Memory → List ℕ → Option Slot
bad_slot memory chunk = first_bad memory chunk (slots chunk)

abbrev pub bad_pointer : ℕ → Option Slot → Option Fault
bad_pointer address None = None
bad_pointer address (Some slot) = Some (BadPointer address slot)

-- the first defect of an object
abbrev pub defect : Memory → Weak → Object → Option Fault
defect memory weak object =
    let address = address_in memory.base object in
    if lacks_class object.chunk then Some (NoClass address)
    else (if is_bad_method object.chunk then Some (BadMethod address)
    else (if is_bad_context object.chunk then Some (BadContext address)
    else (if is_bad_weak memory weak object.chunk then Some (BadWeak address)
    else bad_pointer address (bad_slot memory object.chunk))))

abbrev pub first_some : {X : Type 0} → List (Option X) → Option X
first_some [] = None
first_some (None ∷ others) = first_some others
first_some ((Some x) ∷ others) = Some x

-- the defect of the lowest marked object that has one
abbrev pub first_defect : Memory → Weak → List Bool → Option Fault
first_defect memory weak marks = first_some (map (defect memory weak) (live memory marks))

-- whether weak slots are cleared and there is no nil that they could point to
abbrev pub lacks_nil : Memory → Weak → Bool
lacks_nil memory Keep = false
lacks_nil memory Clear = is_none (nil memory Clear)
