-- How many elements objects have.
use Rattle.std.specs.Prelude.{◌==◌, ◌||◌, nat_le, ℕ, ◌-◌, ℤ, pos, negsuc, ◌+ℤ◌, ◌-ℤ◌, Bool, true, false, if◌then◌else◌}
use Rattle.std.specs.Prelude.{List, length, codes, position, slice_get, Option, Some, None, option_and_then}
use Rattle.std.specs.Option.{option_map_or, option_or}
use Rattle.std.specs.Str.{bytes_eq}
use Rattle.sqz_object.specs.declared.order.Order.{Order}
use Rattle.sqz_object.specs.declared.layout.Layout.{Layout}
use Rattle.sqz_object.specs.declared.layout.Layout.TheVariants as layouts
use Rattle.sqz_object.specs.declared.value.Value.{Value}
use Rattle.sqz_object.specs.declared.value.Value.TheVariants.{Int, Pointer, Odd}
use Rattle.sqz_object.specs.Chunk.{fields, format}
use Rattle.sqz_object.specs.Layout.{layout}
use Rattle.sqz_object.specs.Value.{value_of}
use Rattle.sqz_image.specs.Objects.{Memory, chunk_words}
use Rattle.sqz_trace.specs.declared.weak.Weak.{Weak}
use Rattle.sqz_trace.specs.Strong.{class_of, fixed_by}
use Rattle.sqz_histogram.specs.Bytes.{bytes_in}
use Rattle.sqz_names.specs.declared.elements.Counter.{Counter}
use Rattle.sqz_names.specs.declared.elements.Counter.TheVariants.{Tally, Ends, Fields}
use Rattle.sqz_names.specs.InstanceVariables.{instance_variables}

-- ---- what the elements of the instances of a class are counted by

-- whether the fields of a byte object are these bytes; false for any other layout
abbrev pub reads : Order → List ℕ → Layout → List ℕ → Bool
reads order text (layouts.Bytes unused) fields = bytes_eq (bytes_in order unused fields) text
reads order text _ fields = false

-- whether an object is a byte object with these bytes
abbrev pub is_named : Memory → List ℕ → ℕ → Bool
is_named memory name object = reads memory.order name (layout (chunk_words memory object)) (fields (chunk_words memory object))

-- the place of the first instance variable with a name. The names of the instance variables are byte
-- objects, one for each fixed field, so it is the number of a field
abbrev pub place_of : Memory → List ℕ → List ℕ → Option ℕ
place_of memory name variables = position (is_named memory name) variables

-- the counter by the places of `array`, `tally`, `firstIndex` and `lastIndex`
abbrev pub counter_at : Option ℕ → Option ℕ → Option ℕ → Option ℕ → Counter
counter_at None tally first last = Fields
counter_at (Some array) (Some tally) first last = Tally tally
counter_at (Some array) None (Some first) (Some last) = Ends first last
counter_at (Some array) None (Some first) None = Fields
counter_at (Some array) None None last = Fields

-- the counter by the names of the instance variables
abbrev pub counter_by : Memory → List ℕ → Counter
counter_by memory variables =
    counter_at (place_of memory (codes "array") variables) (place_of memory (codes "tally") variables)
    (place_of memory (codes "firstIndex") variables) (place_of memory (codes "lastIndex") variables)

-- the counter of the instances of a class, by the names of its instance variables; that of the
-- fields if they are not known
abbrev pub counter_in : Memory → ℕ → Counter
counter_in memory class = option_map_or (counter_by memory) (instance_variables memory class) Fields

-- the counter of an object, by its class; that of the fields if it has no class
abbrev pub counter_of : Memory → Weak → ℕ → Counter
counter_of memory weak object = option_map_or (counter_in memory) (class_of memory weak (chunk_words memory object)) Fields

-- ---- the number that an object states

-- a number that is not negative
abbrev pub natural : ℤ → Option ℕ
natural (pos number) = Some number
natural (negsuc below) = None

-- a SmallInteger; None for any other value
abbrev pub integer_of : Value → Option ℤ
integer_of (Int number) = Some number
integer_of (Pointer address) = None
integer_of (Odd word) = None

-- the SmallInteger in one of these fields
abbrev pub integer_in : List ℕ → ℕ → Option ℤ
integer_in fields field = option_and_then (λ word. integer_of (value_of word)) (slice_get fields field)

-- the number of the numbers from the first to the last one
abbrev pub count_between : ℤ → ℤ → Option ℕ
count_between first last = natural ((last -ℤ first) +ℤ pos 1)

-- the number of elements that these fields state
abbrev pub stated_by : List ℕ → Counter → Option ℕ
stated_by fields (Tally field) = option_and_then natural (integer_in fields field)
stated_by fields (Ends first last) =
    option_and_then (λ first. option_and_then (count_between first) (integer_in fields last)) (integer_in fields first)
stated_by fields Fields = None

-- whether the fields of this layout are pointers
abbrev pub has_pointer_fields : Layout → Bool
has_pointer_fields layouts.Fields = true
has_pointer_fields layouts.Weak = true
has_pointer_fields layouts.Context = true
has_pointer_fields layouts.Words = false
has_pointer_fields (layouts.Bytes unused) = false
has_pointer_fields layouts.Method = false

-- the number of elements that an object with pointer fields states
abbrev pub stated_count : Memory → ℕ → Counter → Option ℕ
stated_count memory object counter =
    if has_pointer_fields (layout (chunk_words memory object)) then stated_by (fields (chunk_words memory object)) counter else None

-- ---- the number of indexed fields

-- the fields after the fixed ones; None if there are fewer
abbrev pub beyond : ℕ → ℕ → Option ℕ
beyond count fixed = if nat_le fixed count then Some (count - fixed) else None

-- the number of indexed fields, by the format, the number of fields and that of the fixed ones: all
-- in format 2, and those after the fixed ones in formats 3 and 4
abbrev pub indexed_by : ℕ → ℕ → Option ℕ → Option ℕ
indexed_by format count fixed =
    if format == 2 then Some count else (if format == 3 || format == 4 then option_and_then (beyond count) fixed else None)

-- the number of the indexed fields of an object
abbrev pub indexed_fields : Memory → Weak → ℕ → Option ℕ
indexed_fields memory weak object =
    indexed_by (format (chunk_words memory object)) (length (fields (chunk_words memory object)))
    (fixed_by memory (class_of memory weak (chunk_words memory object)))

-- ---- the number of elements

-- the number that an object states, else that of its indexed fields
abbrev pub element_count : Memory → Weak → ℕ → Counter → Option ℕ
element_count memory weak object counter = option_or (stated_count memory object counter) (indexed_fields memory weak object)
