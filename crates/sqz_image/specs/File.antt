-- An image file: sixteen header words, and the data directly after them. The header is at the
-- front, or after a prefix.
use Rattle.std.specs.Prelude.{◌≡◌, ◌⊎◌, ℕ, ◌+◌, ◌*◌, ◌<◌, ◌≤◌, ◌==◌, ◌&&◌, nat_le, if◌then◌else◌, Bool, List, ◌++◌, length, take, drop}
use Rattle.std.specs.Prelude.{slice_index, slice_set, Option, Some, None, is_some}
use Rattle.std.specs.List.{concat}
use Rattle.sqz_object.specs.declared.order.Order.{Order}
use Rattle.sqz_object.specs.declared.order.Order.TheVariants.{Little, Big}
use Rattle.sqz_object.specs.Bytes.{number_of, words_of, spelling_of}
use Rattle.sqz_image.specs.declared.header.Header.{Header}

-- the bytes of a file: numbers below 256
abbrev pub AreBytes : List ℕ → Type 0
AreBytes file = (i : ℕ) → slice_index file i < 256

-- the version of the image format: the first header word
abbrev pub version : ℕ
version = 6502

-- the size of the header in bytes
abbrev pub header_size : ℕ
header_size = 64

-- the byte order in which the first word is the version, if there is one
abbrev pub order_of : List ℕ → Option Order
order_of bytes =
    if number_of Little bytes == version then Some Little
    else (if number_of Big bytes == version then Some Big else None)

-- the size of a prefix in bytes
abbrev pub prefix_size : ℕ
prefix_size = 512

-- whether the version, in either byte order, follows a prefix
abbrev pub has_version_behind : List ℕ → Bool
has_version_behind file = nat_le (prefix_size + 4) (length file) && is_some (order_of (drop prefix_size file))

-- the offset of the header: after a prefix, if the version is there and does not begin the file;
-- else 0
abbrev pub header_offset : List ℕ → ℕ
header_offset file = if is_some (order_of file) then 0 else (if has_version_behind file then prefix_size else 0)

-- the bytes before the header, and those from it on
abbrev pub prefix_of : List ℕ → List ℕ
prefix_of file = take (header_offset file) file

abbrev pub image_bytes : List ℕ → List ℕ
image_bytes file = drop (header_offset file) file

-- the header words that the bytes begin with
abbrev pub header_of : Order → List ℕ → List ℕ
header_of order bytes = words_of order (take header_size bytes)

-- what four of the header words state: the size of the header in bytes, the size of the data in
-- bytes, the address of the first data word, and the address of the special objects array
abbrev pub stated_header_size : List ℕ → ℕ
stated_header_size header = slice_index header 1

abbrev pub data_size : List ℕ → ℕ
data_size header = slice_index header 2

abbrev pub base_address : List ℕ → ℕ
base_address header = slice_index header 3

abbrev pub special_address : List ℕ → ℕ
special_address header = slice_index header 4

-- the header that a file has: where it is, in which order, and its words
pub record IsHeader (file : List ℕ) (header : Header) : Type 0 where
  pub long : header_size ≤ length (image_bytes file)
  pub offset : header.offset ≡ header_offset file
  pub order : order_of (image_bytes file) ≡ Some header.order
  pub words : header.words ≡ header_of header.order (image_bytes file)

-- the file has no header: it is too short, or does not state the version
abbrev pub HasNoHeader : List ℕ → Type 0
HasNoHeader file = (length (image_bytes file) < header_size) ⊎ (order_of (image_bytes file) ≡ None)

-- the data words after the header
abbrev pub data_of : Order → List ℕ → List ℕ
data_of order bytes =
    words_of order (take (data_size (header_of order bytes)) (drop header_size bytes))

-- the header words with another data size in bytes and another address of the special objects
-- array
abbrev pub renewed : List ℕ → ℕ → ℕ → List ℕ
renewed header size special = slice_set (slice_set header 2 size) 4 special

-- the bytes of the file with this prefix, these header words, renewed, and the pieces as data
abbrev pub file_with : Order → List ℕ → List ℕ → ℕ → List (List ℕ) → List ℕ
file_with order prefix header special pieces =
    prefix ++ spelling_of order (renewed header (4 * length (concat pieces)) special ++ concat pieces)
