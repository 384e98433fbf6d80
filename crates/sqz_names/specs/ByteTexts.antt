-- Bytes as text, and the names of classes as text.
use Rattle.std.specs.Prelude.{ℕ, ◌-◌, ◌^◌, ◌==◌, ◌&&◌, nat_le, if◌then◌else◌, Bool, true, false, List, [], ◌∷◌, ◌++◌, length, take, map, codes, unwrap_or}
use Rattle.std.specs.List.{concat}
use Rattle.std.specs.Fmt.{digits, format_spec, padded_integral}
use Rattle.sqz_object.specs.declared.order.Order.{Order}
use Rattle.sqz_object.specs.declared.layout.Layout.{Layout}
use Rattle.sqz_object.specs.declared.layout.Layout.TheVariants.{Bytes}
use Rattle.sqz_object.specs.Chunk.{fields}
use Rattle.sqz_object.specs.Layout.{layout}
use Rattle.sqz_image.specs.Objects.{Memory, chunk_words}
use Rattle.sqz_trace.specs.declared.weak.Weak.{Weak}
use Rattle.sqz_histogram.specs.Bytes.{bytes_in, first_bytes}
use Rattle.sqz_histogram.specs.Names.{name_as}

-- ---- bytes

-- a number in this many hexadecimal digits or more
abbrev pub hex : ℕ → ℕ → List ℕ
hex width n = padded_integral (format_spec 32 0 4 width (2 ^ 64 - 1)) false [] (digits 16 false n)

-- a byte as text: a backslash is doubled, and what is no printable ASCII character is `\x` and two
-- hexadecimal digits
abbrev pub escaped_byte : ℕ → List ℕ
escaped_byte byte =
    if byte == 92 then 92 ∷ 92 ∷ [] else (if nat_le 32 byte && nat_le byte 126 then byte ∷ [] else 92 ∷ 120 ∷ hex 2 byte)

-- a byte as text in quotes: a quote is doubled
abbrev pub quoted_byte : ℕ → List ℕ
quoted_byte byte = if byte == 39 then 39 ∷ escaped_byte byte else escaped_byte byte

-- a byte as text, where a quote is doubled or not
abbrev pub byte_text : Bool → ℕ → List ℕ
byte_text true = quoted_byte
byte_text false = escaped_byte

-- bytes as text
abbrev pub escaped : List ℕ → List ℕ
escaped bytes = concat (map escaped_byte bytes)

-- two dots if there are more than 40 bytes
abbrev pub dots : List ℕ → List ℕ
dots bytes = if nat_le (length bytes) 40 then [] else codes ".."

-- the first 40 bytes as text, with a text before and after them, and two dots if there are more
abbrev pub shown : (ℕ → List ℕ) → List ℕ → List ℕ → List ℕ
shown byte_text quote bytes =
    ((quote ++ concat (map byte_text (take 40 bytes))) ++ quote) ++ dots bytes

-- ---- byte objects

-- the first bytes of a byte object, up to one more than a label shows; none of any other object
abbrev pub label_bytes : Memory → ℕ → List ℕ
label_bytes memory object = unwrap_or (first_bytes memory.order 41 (chunk_words memory object)) []

abbrev pub text_of : Memory → ℕ → List ℕ
text_of memory object = shown (byte_text false) [] (label_bytes memory object)

-- in quotes
abbrev pub quoted_text_of : Memory → ℕ → List ℕ
quoted_text_of memory object = shown (byte_text true) (39 ∷ []) (label_bytes memory object)

-- the bytes in the fields of an object with this layout; none unless they are bytes
abbrev pub bytes_by : Order → Layout → List ℕ → List ℕ
bytes_by order (Bytes unused) fields = bytes_in order unused fields
bytes_by order _ fields = []

-- all bytes of a byte object as text; none of any other object
abbrev pub whole_text : Memory → ℕ → List ℕ
whole_text memory object = escaped (bytes_by memory.order (layout (chunk_words memory object)) (fields (chunk_words memory object)))

-- its first bytes as text
abbrev pub whole_front : Memory → ℕ → ℕ → List ℕ
whole_front memory most object = escaped (unwrap_or (first_bytes memory.order most (chunk_words memory object)) [])

-- ---- names of classes

-- the name of a class as it is printed
abbrev pub name_of_class : Memory → Weak → ℕ → List ℕ
name_of_class memory weak class = name_as (text_of memory) memory weak class

-- the whole name of a class
abbrev pub whole_name : Memory → Weak → ℕ → List ℕ
whole_name memory weak class = name_as (whole_text memory) memory weak class
