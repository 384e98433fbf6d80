-- Objects that can be classes.
use Rattle.std.specs.Prelude.{ℕ, ◌%◌, ◌==◌, ◌&&◌, Bool, slice_index, Some, is_some}
use Rattle.sqz_object.specs.Chunk.{fields, format}
use Rattle.sqz_image.specs.Objects.{Memory, chunk_words}
use Rattle.sqz_trace.specs.Strong.{fixed_by}

-- whether a field of the object with an index holds no SmallInteger
abbrev pub holds_no_integer : Memory → ℕ → ℕ → Bool
holds_no_integer memory index field = slice_index (fields (chunk_words memory index)) field % 2 == 0

-- whether an object can be a class: it has fixed fields alone, which is format 1; it states how many
-- fixed fields its instances have; and its fields 0 and 1, the superclass and the method dictionary
-- of a class, hold no SmallIntegers
abbrev pub can_be_class : Memory → ℕ → Bool
can_be_class memory index =
    format (chunk_words memory index) == 1
    && is_some (fixed_by memory (Some index))
    && holds_no_integer memory index 0
    && holds_no_integer memory index 1
