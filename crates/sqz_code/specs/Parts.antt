-- The parts of a compiled method, by the byte order of its file and the words of its chunk.
use Rattle.std.specs.Prelude.{◌≡◌, ℕ, ◌+◌, ◌-◌, ◌*◌, List, [], ◌∷◌, length, take, drop, reverse, Option, None}
use Rattle.sqz_object.specs.declared.order.Order.{Order}
use Rattle.sqz_object.specs.Bytes.{spelling_of}
use Rattle.sqz_object.specs.Value.{base_of, padding}
use Rattle.sqz_object.specs.Chunk.{base_word, fields}
use Rattle.sqz_trace.specs.Slots.{traced}
use Rattle.sqz_code.specs.declared.header.MethodHeader.{MethodHeader}
use Rattle.sqz_code.specs.Headers.{method_header}
use Rattle.sqz_code.specs.declared.methods.parts.MethodParts.{MethodParts}
use Rattle.sqz_code.specs.Trailers.{trailer_length}

-- what field 0 says
abbrev pub header_in : List ℕ → Option MethodHeader
header_in [] = None
header_in (header ∷ rest) = method_header header

-- the literals: the traced fields after the header
abbrev pub literals_in : List ℕ → List ℕ
literals_in chunk = drop 1 (take (traced chunk) (fields chunk))

-- their number
abbrev pub literal_count : List ℕ → ℕ
literal_count chunk = traced chunk - 1

-- the bytes after the literals, as the file has them, without the padding in the last word
abbrev pub code_bytes : Order → List ℕ → List ℕ
code_bytes order chunk =
    let bytes = spelling_of order (drop (literal_count chunk + 1) (fields chunk)) in
    take (length bytes - padding (base_of (base_word chunk))) bytes

-- the bytecodes: those of these bytes that stand before the trailer
abbrev pub bytecodes_in : Order → List ℕ → List ℕ
bytecodes_in order chunk =
    let bytes = code_bytes order chunk in take (length bytes - trailer_length (reverse bytes)) bytes

-- the parts of the method with these words
pub record ArePartsOf (order : Order) (chunk : List ℕ) (parts : MethodParts) : Type 0 where
  pub header : parts.header ≡ header_in (fields chunk)
  pub literals : parts.literals ≡ literal_count chunk
  pub code_start : parts.code_start ≡ 4 * (literal_count chunk + 1)
  pub bytecodes : parts.bytecodes.items ≡ bytecodes_in order chunk
