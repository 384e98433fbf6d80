-- The header word of a compiled method, as Squeak's interpreter reads it.
use Rattle.std.specs.Prelude.{◌+◌, ◌*◌, ◌/◌, ◌%◌, ◌^◌, ◌==◌, ℕ, if◌then◌else◌, Option, Some, None}
use Rattle.sqz_code.specs.declared.header.MethodHeader.{MethodHeader}

-- a field of adjacent bits of a word, from the lowest one on
abbrev pub bits : ℕ → ℕ → ℕ → ℕ
bits lowest width word = word / 2 ^ lowest % 2 ^ width

-- what a header word says; it is a SmallInteger
abbrev pub method_header : ℕ → Option MethodHeader
method_header word = if word % 2 == 1 then Some (record {
  arguments = bits 25 4 word;
  temporaries = bits 19 6 word;
  literals = bits 10 8 word;
  primitive = bits 1 9 word + 512 * bits 29 1 word;
  has_large_frame = bits 18 1 word == 1;
}) else None
