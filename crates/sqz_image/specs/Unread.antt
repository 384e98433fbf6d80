-- What is read of a file before its image keeps it, and what is given back if there is no image.
use Rattle.std.specs.Prelude.{◌≡◌, ◌⊎◌, ◌-◌, ◌≤◌, ℕ, List, length, take, drop, None, IfSome, IfNone}
use Rattle.sqz_object.specs.Bytes.{words_of}
use Rattle.sqz_image.specs.declared.fault.Fault.TheVariants.{OutOfMemory}
use Rattle.sqz_image.specs.declared.file_parts.Parts.{Parts}
use Rattle.sqz_image.specs.declared.reading.UnreadFile.{UnreadFile}
use Rattle.sqz_image.specs.File.{IsHeader, HasNoHeader, prefix_of, image_bytes, base_address, special_address, data_of}
use Rattle.sqz_image.specs.Memory.{memory_of, IsKept}
use Rattle.sqz_image.specs.Refusals.{file_fault, IsUnreadable}

-- the parts of a file without a fault: its header, the bytes before it, the place of its data, and
-- where their objects lie
pub record ArePartsOf (file : List ℕ) (parts : Parts) : Type 0 where
  pub header : IsHeader file parts.header
  pub sound : file_fault file ≡ None
  pub prefix : parts.prefix.items ≡ prefix_of file
  pub ordered : parts.start ≤ parts.end
  pub inside : parts.end ≤ length file
  pub words_are : words_of parts.header.order (take (parts.end - parts.start) (drop parts.start file))
      ≡ data_of parts.header.order (image_bytes file)
  pub kept :
      IsKept
      (memory_of parts.header.order (base_address parts.header.words) (special_address parts.header.words)
      (data_of parts.header.order (image_bytes file)))
      (data_of parts.header.order (image_bytes file)) parts.index.starts.items parts.index.headers.items
      parts.index.special_object

-- the file holds no image for this reason, or memory ran out; its bytes are given back, with its
-- header if it has one
pub record IsUnread (file : List ℕ) (unread : UnreadFile) : Type 0 where
  pub bytes : unread.bytes.items ≡ file
  pub header : IfSome unread.header (IsHeader file)
  pub no_header : IfNone unread.header (HasNoHeader file)
  pub refused : ((unread.fault ≡ OutOfMemory) × (file_fault file ≡ None)) ⊎ IsUnreadable file unread.fault
