-- The bytes of strings and symbols.
use Rattle.std.specs.Prelude.{◌^◌, ◌-◌, ◌||◌, ℕ, Bool, if◌then◌else◌, List, Option, None, bytes_eq, codes, option_and_then}
use Rattle.sqz_image.specs.Objects.{Memory, chunk_words}
use Rattle.sqz_trace.specs.declared.weak.Weak.{Weak}
use Rattle.sqz_trace.specs.Strong.{class_of}
use Rattle.sqz_histogram.specs.Bytes.{first_bytes}
use Rattle.sqz_histogram.specs.Names.{class_name}

-- whether a class with this name has strings or symbols as instances
abbrev pub is_text_class : List ℕ → Bool
is_text_class name =
    bytes_eq name (codes "String") || (bytes_eq name (codes "ByteString") || (bytes_eq name (codes "Symbol") || bytes_eq name (codes "ByteSymbol")))

-- all bytes of a byte object, if it is an instance of such a class
abbrev pub text_in : Memory → Weak → ℕ → ℕ → Option (List ℕ)
text_in memory weak object class =
    if is_text_class (class_name memory weak class) then first_bytes memory.order (2 ^ 64 - 1) (chunk_words memory object) else None

-- the bytes of a string or a symbol
abbrev pub text_of : Memory → Weak → ℕ → Option (List ℕ)
text_of memory weak object = option_and_then (text_in memory weak object) (class_of memory weak (chunk_words memory object))
