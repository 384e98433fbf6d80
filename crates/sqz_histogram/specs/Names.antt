-- The names of classes.
use Rattle.std.specs.Prelude.{ℕ, nat_le, ◌&&◌, if◌then◌else◌, List, [], ◌++◌, map, codes, Option, Some, None}
use Rattle.std.specs.Prelude.{option_and_then, option_map, unwrap_or}
use Rattle.sqz_object.specs.Layout.{layout}
use Rattle.sqz_image.specs.declared.slot.Slot.TheVariants.{Field}
use Rattle.sqz_image.specs.Objects.{Memory, chunk_words}
use Rattle.sqz_trace.specs.declared.weak.Weak.{Weak}
use Rattle.sqz_trace.specs.Edges.{strong_target}
use Rattle.sqz_histogram.specs.declared.names.ClassName.{ClassName}
use Rattle.sqz_histogram.specs.declared.names.ClassName.TheVariants.{Own, OfInstance}
use Rattle.sqz_histogram.specs.Bytes.{first_bytes, is_byte_layout}

-- ---- the byte object that names a class

-- the byte object that field 6 of an object points to
abbrev pub name_object : Memory → Weak → ℕ → Option ℕ
name_object memory weak index =
    option_and_then (λ name. if is_byte_layout (layout (chunk_words memory name)) then Some name else None)
    (strong_target memory weak index (Field 6))

-- its own name, or else that of its only instance
abbrev pub name_by : Option ℕ → Option ℕ → Option ClassName
name_by (Some own) _ = Some (Own own)
name_by None (Some instance) = Some (OfInstance instance)
name_by None None = None

-- the byte object of a name
abbrev pub text_object : ClassName → ℕ
text_object (Own name) = name
text_object (OfInstance name) = name

-- the name of a class: its own, or else that of the class that its field 5 points to, whose
-- metaclass it is; None if it has neither
abbrev pub naming : Memory → Weak → ℕ → Option ClassName
naming memory weak class =
    name_by (name_object memory weak class) (option_and_then (name_object memory weak) (strong_target memory weak class (Field 5)))

-- ---- its text

-- a name, given how the text of a byte object is printed
abbrev pub name_text : (ℕ → List ℕ) → ClassName → List ℕ
name_text text (Own name) = text name
name_text text (OfInstance name) = text name ++ codes " class"

-- the name of a class, given how the text of a byte object is printed: a question mark if it has none
abbrev pub name_as : (ℕ → List ℕ) → Memory → Weak → ℕ → List ℕ
name_as text memory weak class = unwrap_or (option_map (name_text text) (naming memory weak class)) (codes "?")

-- a byte as a class histogram prints it: a question mark if it is not a printable ASCII character
abbrev pub shown_byte : ℕ → ℕ
shown_byte byte = if nat_le 32 byte && nat_le byte 126 then byte else 63

-- the first 40 bytes of a byte object, as a class histogram prints them
abbrev pub shown_text : Memory → ℕ → List ℕ
shown_text memory object = map shown_byte (unwrap_or (first_bytes memory.order 40 (chunk_words memory object)) [])

-- the name of a class as a class histogram prints it
abbrev pub class_name : Memory → Weak → ℕ → List ℕ
class_name memory weak class = name_as (shown_text memory) memory weak class
