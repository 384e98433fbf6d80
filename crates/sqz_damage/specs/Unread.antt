-- Where a chunk is that cannot be read.
use Rattle.std.specs.Prelude.{◌≡◌, ℕ, ◌+◌, ◌*◌, ◌%◌, ◌^◌, ◌<◌, Some}
use Rattle.sqz_image.specs.declared.fault.Fault.{Fault}
use Rattle.sqz_image.specs.declared.header.Header.{Header}
use Rattle.sqz_image.specs.File.{base_address}
use Rattle.sqz_image.specs.Readable.{unread_word}
use Rattle.sqz_damage.specs.declared.places.unread.UnreadPlace.{UnreadPlace}
use Rattle.sqz_damage.specs.Bytes.{byte_of_word}

-- the first word of the chunk that a fault states, in memory and in the file
pub record IsUnreadPlace (header : Header) (fault : Fault) (place : UnreadPlace) : Type 0 where
  pub word : ℕ
  pub stated : unread_word fault ≡ Some word
  pub address : place.address ≡ (base_address header.words + 4 * word) % 2 ^ 32
  pub byte : byte_of_word header.offset word < 2 ^ 64 → place.byte ≡ byte_of_word header.offset word
