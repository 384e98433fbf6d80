-- What a file holds, and why it is rejected before its objects are examined: faults 1 to 10.
use Rattle.std.specs.Prelude.{◌≡◌, ℕ, ◌+◌, ◌%◌, ◌^◌, ◌==◌, ◌||◌, not, nat_lt, if◌then◌else◌, List, length, Option, Some}
use Rattle.std.specs.Prelude.{None, IsSome, ◌⊎◌}
use Rattle.sqz_object.specs.declared.order.Order.{Order}
use Rattle.sqz_object.specs.declared.chunk.ChunkFault.{ChunkFault}
use Rattle.sqz_object.specs.declared.chunk.ChunkFault.TheVariants as chunk_faults
use Rattle.sqz_object.specs.Partition.{IsPartition, IsStuck}
use Rattle.sqz_image.specs.declared.fault.Fault.{Fault}
use Rattle.sqz_image.specs.declared.fault.Fault.TheVariants.{TooShort, BadVersion, BadHeaderSize, BadDataSize, BadBase}
use Rattle.sqz_image.specs.declared.fault.Fault.TheVariants.{Truncated, ZeroSize, HeaderMismatch, Overrun}
use Rattle.sqz_image.specs.declared.fault.Fault.TheVariants.{BadSpecialObjects}
use Rattle.sqz_image.specs.File.{header_size, order_of, prefix_of, image_bytes, header_of, stated_header_size}
use Rattle.sqz_image.specs.File.{data_size, base_address, special_address, data_of}
use Rattle.sqz_image.specs.Objects.{SavedImage, find}

-- the first of faults 3 to 6 that applies, by the header words and the number of bytes from the
-- header on
abbrev pub header_fault : List ℕ → ℕ → Option Fault
header_fault header bytes =
    if not (stated_header_size header == header_size) then Some BadHeaderSize
    else (if not (data_size header % 4 == 0) then Some BadDataSize
    else (if not (base_address header % 4 == 0) || nat_lt (2 ^ 32) (base_address header + data_size header) then Some BadBase
    else (if nat_lt bytes (header_size + data_size header) then Some Truncated
    else None)))

-- the first of faults 3 to 5 that applies, by the header words alone
abbrev pub words_fault : List ℕ → Option Fault
words_fault header =
    if not (stated_header_size header == header_size) then Some BadHeaderSize
    else (if not (data_size header % 4 == 0) then Some BadDataSize
    else (if not (base_address header % 4 == 0) || nat_lt (2 ^ 32) (base_address header + data_size header) then Some BadBase
    else None))

abbrev pub fault_in_order : Option Order → List ℕ → Option Fault
fault_in_order None bytes = Some BadVersion
fault_in_order (Some order) bytes = header_fault (header_of order bytes) (length bytes)

-- the first of faults 1 to 6 that applies, by the bytes from the header on
abbrev pub header_bytes_fault : List ℕ → Option Fault
header_bytes_fault bytes =
    if nat_lt (length bytes) header_size then Some TooShort else fault_in_order (order_of bytes) bytes

-- the first of faults 1 to 6 that applies to a file
abbrev pub file_fault : List ℕ → Option Fault
file_fault file = header_bytes_fault (image_bytes file)

-- the bytes before the file's header, its header words, and its data cut into chunks
pub record HasChunks (file : List ℕ) (image : SavedImage) : Type 0 where
  pub sound : file_fault file ≡ None
  pub prefix : image.prefix ≡ prefix_of file
  pub order : order_of (image_bytes file) ≡ Some image.memory.order
  pub header : image.header ≡ header_of image.memory.order (image_bytes file)
  pub base : image.memory.base ≡ base_address image.header
  pub special : image.memory.special ≡ special_address image.header
  pub chunks : IsPartition (data_of image.memory.order (image_bytes file)) image.memory.chunks

-- the file holds the image, which has its special objects array
pub record Holds (file : List ℕ) (image : SavedImage) : Type 0 where
  pub parts : HasChunks file image
  pub special : IsSome (find image.memory image.memory.special)

-- the fault for a chunk that cannot be read, by the index of its first word
abbrev pub refusal_of : ChunkFault → ℕ → Fault
refusal_of chunk_faults.ZeroSize word = ZeroSize word
refusal_of chunk_faults.HeaderMismatch word = HeaderMismatch word
refusal_of chunk_faults.Overrun word = Overrun word

-- the words cannot be cut into chunks
pub record HasNoPartition (words : List ℕ) (fault : Fault) : Type 0 where
  pub word : ℕ
  pub reason : ChunkFault
  pub stuck : IsStuck words word reason
  pub refused : fault ≡ refusal_of reason word

-- the data cannot be cut into chunks
pub record HasUnreadableChunk (file : List ℕ) (fault : Fault) : Type 0 where
  pub sound : file_fault file ≡ None
  pub order : Order
  pub in_order : order_of (image_bytes file) ≡ Some order
  pub unreadable : HasNoPartition (data_of order (image_bytes file)) fault

-- no object has the address of the special objects array
pub record LacksSpecialObjects (file : List ℕ) (fault : Fault) : Type 0 where
  pub image : SavedImage
  pub parts : HasChunks file image
  pub missing : find image.memory image.memory.special ≡ None
  pub refused : fault ≡ BadSpecialObjects

-- the file holds no image; the fault is the first that applies
abbrev pub IsUnreadable : List ℕ → Fault → Type 0
IsUnreadable file fault =
    (file_fault file ≡ Some fault) ⊎ HasUnreadableChunk file fault ⊎ LacksSpecialObjects file fault
