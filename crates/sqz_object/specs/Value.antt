-- What a word of an object means, and the fields of a base header word.
use Rattle.std.specs.Prelude.{ℕ, ◌/◌, ◌%◌, ◌^◌, ◌==◌, nat_lt, if◌then◌else◌, ℤ, pos, ◌-ℤ◌}
use Rattle.sqz_object.specs.declared.value.Value.{Value}
use Rattle.sqz_object.specs.declared.value.Value.TheVariants.{Int, Pointer, Odd}
use Rattle.sqz_object.specs.declared.base.Base.{Base}

-- a 31-bit number as a signed one, in two's complement
abbrev pub signed_31 : ℕ → ℤ
signed_31 bits = if nat_lt bits (2 ^ 30) then pos bits else pos bits -ℤ pos (2 ^ 31)

-- bit 0 marks a SmallInteger in the 31 bits above it; the low bits 00 mark an address
abbrev pub value_of : ℕ → Value
value_of word =
    if word % 2 == 1 then Int (signed_31 (word / 2)) else (if word % 4 == 0 then Pointer word else Odd word)

-- the bit fields of a base header word
abbrev pub base_of : ℕ → Base
base_of word =
    record {
      kind = word % 4;
      size_field = word / 4 % 64;
      format = word / 2 ^ 8 % 16;
      compact = word / 2 ^ 12 % 32;
      hash = word / 2 ^ 17 % 2 ^ 12;
    }

-- the number of padding bytes in the last word of a byte object or a method, by its format
abbrev pub padding : Base → ℕ
padding base = if nat_lt base.format 8 then 0 else base.format % 4
