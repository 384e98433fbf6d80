-- How much of a file can be read before a chunk that cannot be read.
use Rattle.std.specs.Prelude.{◌≡◌, ℕ, ◌-◌, List, length, take, Option, Some, None, IfSome, IfNone}
use Rattle.sqz_image.specs.declared.fault.Fault.{Fault}
use Rattle.sqz_image.specs.declared.fault.Fault.TheVariants.{ZeroSize, HeaderMismatch, Overrun}
use Rattle.sqz_image.specs.declared.header.Header.{Header}
use Rattle.sqz_image.specs.declared.readable.Readable.{Readable}
use Rattle.sqz_image.specs.File.{IsHeader, image_bytes, base_address, data_of}
use Rattle.sqz_image.specs.Objects.{Object, objects_of, address_in}
use Rattle.sqz_image.specs.Starts.{object_in}
use Rattle.sqz_object.specs.Partition.{IsPartition}

-- the index of the first word of a chunk that cannot be read
abbrev pub unread_word : Fault → Option ℕ
unread_word (ZeroSize word) = Some word
unread_word (HeaderMismatch word) = Some word
unread_word (Overrun word) = Some word
unread_word _ = None

-- the address is that of the last object
abbrev pub IsLastAddress : ℕ → List Object → ℕ → Type 0
IsLastAddress base objects address = address ≡ address_in base (object_in objects (length objects - 1))

-- the words are chunks, and these are their objects: how many, and the address of the last one
pub record IsReadable (base : ℕ) (words : List ℕ) (readable : Readable) : Type 0 where
  pub chunks : List (List ℕ)
  pub partition : IsPartition words chunks
  pub objects : readable.objects ≡ length (objects_of chunks)
  pub last : IfSome readable.last (IsLastAddress base (objects_of chunks))
  pub none : IfNone readable.last (length (objects_of chunks) ≡ 0)

-- the objects in the data words of a file before the chunk that cannot be read
pub record IsReadableOf (file : List ℕ) (fault : Fault) (readable : Readable) : Type 0 where
  pub header : Header
  pub is_header : IsHeader file header
  pub word : ℕ
  pub word_is : unread_word fault ≡ Some word
  pub before : IsReadable (base_address header.words) (take word (data_of header.order (image_bytes file))) readable
