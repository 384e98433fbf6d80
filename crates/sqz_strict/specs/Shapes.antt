-- Whether an object is as its class states.
use Rattle.std.specs.Prelude.{ℕ, ◌-◌, ◌/◌, ◌%◌, ◌^◌, nat_lt, ◌==◌, ◌&&◌, ◌||◌, not, Bool, true, if◌then◌else◌, List, length}
use Rattle.std.specs.Prelude.{slice_index, Option, Some, None, option_map, option_and_then}
use Rattle.sqz_object.specs.Chunk.{fields, format, compact_index}
use Rattle.sqz_image.specs.Objects.{Memory, chunk_words}
use Rattle.sqz_trace.specs.declared.weak.Weak.{Weak}
use Rattle.sqz_trace.specs.Strong.{fixed_by, class_of}
use Rattle.sqz_strict.specs.declared.class_shape.ClassShape.{ClassShape}

-- the word of a class's field 2
abbrev pub shape_word : Memory → ℕ → ℕ
shape_word memory class = slice_index (fields (chunk_words memory class)) 2

-- what a class states of its instances; None if it states no number of fixed fields
abbrev pub stated_shape : Memory → ℕ → Option ClassShape
stated_shape memory class =
    option_map (λ fixed. record {
      format = shape_word memory class / 2 ^ 8 % 16;
      fixed = fixed;
      compact = shape_word memory class / 2 ^ 12 % 32;
    }) (fixed_by memory (Some class))

-- the format without the number of bytes of padding: byte objects and methods have four formats each
abbrev pub unpadded : ℕ → ℕ
unpadded format = if nat_lt format 8 then format else format - format % 4

-- whether an object of this format and with this number of fields has the fixed ones. Formats 0 and
-- 1 have no other fields, and formats above 4 no fixed ones
abbrev pub has_fixed : ℕ → ℕ → ℕ → Bool
has_fixed format fixed count =
    if nat_lt format 2 then count == fixed
    else (if nat_lt format 5 then not (nat_lt count fixed) else true)

-- whether an object is as its class states: format, fixed fields, and compact index if it has one
abbrev pub fits : List ℕ → ClassShape → Bool
fits chunk shape =
    unpadded (format chunk) == unpadded shape.format
    && has_fixed (format chunk) shape.fixed (length (fields chunk))
    && (compact_index chunk == 0 || compact_index chunk == shape.compact)

abbrev pub unless_fits : List ℕ → ClassShape → Option ClassShape
unless_fits chunk shape = if fits chunk shape then None else Some shape

-- what an object's class states, if the object is not so
abbrev pub misfit : Memory → Weak → ℕ → Option ClassShape
misfit memory weak object =
    option_and_then (unless_fits (chunk_words memory object))
    (option_and_then (stated_shape memory) (class_of memory weak (chunk_words memory object)))
