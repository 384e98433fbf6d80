-- What a damaged image file holds besides its damage.
use Rattle.std.specs.Prelude.{◌≡◌, ◌⊎◌, ℕ, List, Some}
use Rattle.sqz_image.specs.declared.fault.Fault.{Fault}
use Rattle.sqz_image.specs.declared.header.Header.{Header}
use Rattle.sqz_image.specs.declared.reading.UnreadFile.{UnreadFile}
use Rattle.sqz_image.specs.File.{IsHeader, HasNoHeader}
use Rattle.sqz_image.specs.Refusals.{Holds, words_fault}
use Rattle.sqz_image.specs.Unread.{IsUnread}
use Rattle.sqz_trace.specs.declared.weak.Weak.{Weak}
use Rattle.sqz_damage.specs.declared.mend.damage.Damage.{Damage}
use Rattle.sqz_damage.specs.declared.mend.recovery.MendedFile.{MendedFile}
use Rattle.sqz_damage.specs.declared.mend.recovery.Recovered.{Recovered}
use Rattle.sqz_damage.specs.declared.mend.recovery.RecoverError.{RecoverError}
use Rattle.sqz_damage.specs.declared.mend.recovery.RecoverError.TheVariants.{OutOfMemory, NoImage}
use Rattle.sqz_damage.specs.Damaged.{HasSoundWords, IsDamageOf, IsNone, LacksData, restored}
use Rattle.sqz_damage.specs.Mended.{IsMended}

-- the bytes that are read in place of a file with this damage: its own if there is none, else
-- those of the mended file, with zeros for bytes that were lost before others
pub record AreReadAs (file : List ℕ) (header : Header) (damage : Damage) (bytes : List ℕ) : Type 0 where
  pub whole : IsNone damage → bytes ≡ file
  pub mended : (IsNone damage → ⊥) → IsMended (restored file header damage.missing damage.place) header damage bytes

-- a file that holds no image without a fault, as it is mended
pub record IsMendedDamage (weak : Weak) (file : List ℕ) (header : Header) (mended : MendedFile) : Type 0 where
  pub header_is : mended.header ≡ header
  pub damage : LacksData weak file header mended.damage
  pub read_as : AreReadAs file header mended.damage mended.bytes.items

-- the file as it is mended
pub record IsMendedFile (weak : Weak) (file : List ℕ) (mended : MendedFile) : Type 0 where
  pub header : HasSoundWords file mended.header
  pub damage : IsDamageOf weak file mended.header mended.damage
  pub read_as : AreReadAs file mended.header mended.damage mended.bytes.items

-- the header of a file has this fault: the file has no header, or the words of its header have it
abbrev pub HasHeaderFault : List ℕ → Fault → Type 0
HasHeaderFault file fault =
    HasNoHeader file ⊎ ((header : Header) × IsHeader file header × (words_fault header.words ≡ Some fault))

-- the file holds no image, since its header has a fault
pub record HasBadHeader (file : List ℕ) (unread : UnreadFile) : Type 0 where
  pub is_unread : IsUnread file unread
  pub bad : HasHeaderFault file unread.fault

-- the file was not mended, for this reason
abbrev pub StopsMending : List ℕ → RecoverError → Type 0
StopsMending file OutOfMemory = Unit {0}
StopsMending file (NoImage unread) = HasBadHeader file unread

-- the image that the file holds besides its damage
pub record IsRecovered (weak : Weak) (file : List ℕ) (recovered : Recovered) : Type 0 where
  pub header : HasSoundWords file recovered.header
  pub damage : IsDamageOf weak file recovered.header recovered.damage
  pub bytes : List ℕ
  pub read_as : AreReadAs file recovered.header recovered.damage bytes
  pub holds : Holds bytes recovered.image

-- the file with its damage mended holds no image
pub record HoldsNoneMended (weak : Weak) (file : List ℕ) (unread : UnreadFile) : Type 0 where
  pub header : Header
  pub is_header : HasSoundWords file header
  pub damage : Damage
  pub is_damage : IsDamageOf weak file header damage
  pub bytes : List ℕ
  pub read_as : AreReadAs file header damage bytes
  pub is_unread : IsUnread bytes unread

-- the file holds no image: its header has a fault, or it holds none after its damage was mended
abbrev pub IsNotRecovered : Weak → List ℕ → UnreadFile → Type 0
IsNotRecovered weak file unread = HasBadHeader file unread ⊎ HoldsNoneMended weak file unread

-- nothing was recovered of the file, for this reason
abbrev pub StopsRecovery : Weak → List ℕ → RecoverError → Type 0
StopsRecovery weak file OutOfMemory = Unit {0}
StopsRecovery weak file (NoImage unread) = IsNotRecovered weak file unread
