-- A damaged image file with its gaps as free chunks, and the size of the data that it has.
use Rattle.std.specs.Prelude.{◌≡◌, ℕ, ◌+◌, ◌*◌, List, length, take, drop}
use Rattle.sqz_object.specs.Bytes.{bytes_of, words_of}
use Rattle.sqz_image.specs.declared.header.Header.{Header}
use Rattle.sqz_damage.specs.Filled.{filled}
use Rattle.sqz_damage.specs.declared.mend.damage.Damage.{Damage}
use Rattle.sqz_damage.specs.Damaged.{IsNone, data_offset, words_there}

-- the offset in bytes of the header word with the size of the data, and of the words after it
abbrev pub size_offset : Header → ℕ
size_offset header = header.offset + 8

abbrev pub after_size : Header → ℕ
after_size header = header.offset + 12

-- the bytes from `start` on, up to `end`
abbrev pub between : ℕ → ℕ → List ℕ → List ℕ
between start end bytes = drop start (take end bytes)

-- the mended file: only the size of the data and the first word of each gap are written anew
pub record IsMended (file : List ℕ) (header : Header) (damage : Damage) (mended : List ℕ) : Type 0 where
  pub sized : length mended ≡ length file
  pub before : take (size_offset header) mended ≡ take (size_offset header) file
  pub size : between (size_offset header) (after_size header) mended ≡ bytes_of header.order (4 * length (words_there file header))
  pub after : between (after_size header) (data_offset header) mended ≡ between (after_size header) (data_offset header) file
  pub words : words_of header.order (take (4 * length (words_there file header)) (drop (data_offset header) mended))
      ≡ filled (words_there file header) damage.gaps.items
  pub rest : drop (data_offset header + 4 * length (words_there file header)) mended
      ≡ drop (data_offset header + 4 * length (words_there file header)) file

-- what becomes of a file: it stays if there is no damage, and else it is mended
pub record IsMendedIfAny (file : List ℕ) (header : Header) (damage : Damage) (bytes : List ℕ) : Type 0 where
  pub whole : IsNone damage → bytes ≡ file
  pub mended : (IsNone damage → ⊥) → IsMended file header damage bytes
