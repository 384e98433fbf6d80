-- Where data words begin in a file.
use Rattle.std.specs.Prelude.{ℕ, ◌+◌, ◌*◌}
use Rattle.sqz_image.specs.File.{header_size}

-- the byte at which a data word begins, given the bytes before the header: the data words follow
-- the header, and have four bytes each
abbrev pub byte_of_word : ℕ → ℕ → ℕ
byte_of_word offset word = offset + header_size + 4 * word
