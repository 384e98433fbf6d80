-- What of the data of an image file cannot be read.
use Rattle.std.specs.Prelude.{◌≡◌, ℕ, ◌+◌, ◌-◌, ◌*◌, ◌/◌, ◌%◌, ◌<◌, ◌≤◌, List, [], ◌++◌, length, take, drop, replicate, Option, Some, None}
use Rattle.sqz_image.specs.declared.header.Header.{Header}
use Rattle.sqz_image.specs.File.{IsHeader, image_bytes, base_address, data_size, data_of, header_size}
use Rattle.sqz_image.specs.Refusals.{words_fault}
use Rattle.sqz_trace.specs.declared.weak.Weak.{Weak}
use Rattle.sqz_damage.specs.declared.gap.Gap.{Gap}
use Rattle.sqz_damage.specs.Losses.{IsLoss}
use Rattle.sqz_damage.specs.Readings.{AreBestGaps}
use Rattle.sqz_damage.specs.declared.mend.damage.Damage.{Damage}
use Rattle.sqz_damage.specs.Soundness.{IsSound}

-- the file's header, whose words have no fault
pub record HasSoundWords (file : List ℕ) (header : Header) : Type 0 where
  pub is_header : IsHeader file header
  pub sound : words_fault header.words ≡ None

-- the data words that the file has: as many as its header states, or fewer if the file is shorter
abbrev pub words_there : List ℕ → Header → List ℕ
words_there file header = data_of header.order (image_bytes file)

-- the offset of the data in bytes
abbrev pub data_offset : Header → ℕ
data_offset header = header.offset + 64

-- the number of bytes of the data that the file does not have
abbrev pub missing_bytes : List ℕ → Header → ℕ
missing_bytes file header = data_size header.words - (length (image_bytes file) - header_size)

-- bytes may be missing before the last ones: whole words, and no more than are there
pub record MayMissInside (file : List ℕ) (header : Header) (missing : ℕ) : Type 0 where
  pub some : 0 < missing
  pub whole : missing % 4 ≡ 0
  pub few : missing ≤ 4 * length (words_there file header)

-- the word before which the missing bytes were, if that is clear; else they were the last ones
pub record IsPlaceOfLoss (file : List ℕ) (header : Header) (missing : ℕ) (place : Option ℕ) : Type 0 where
  pub inside : MayMissInside file header missing
      → IsLoss (base_address header.words) (words_there file header) (missing / 4) place
  pub at_end : (MayMissInside file header missing → ⊥) → place ≡ None

-- the file with some zeros before a word of its data
abbrev pub with_zeros : List ℕ → Header → ℕ → ℕ → List ℕ
with_zeros file header count place =
    let at = data_offset header + 4 * place in take at file ++ (replicate count 0 ++ drop at file)

-- the file with zeros for the bytes that are missing before a word
abbrev pub restored : List ℕ → Header → ℕ → Option ℕ → List ℕ
restored file header missing None = file
restored file header missing (Some place) = with_zeros file header missing place

-- there is no damage
pub record IsNone (damage : Damage) : Type 0 where
  pub no_gap : damage.gaps.items ≡ []
  pub complete : damage.missing ≡ 0

-- the gaps of the best reading of the data words of a file
abbrev pub HasGaps : List ℕ → Header → List Gap → Type 0
HasGaps file header gaps = AreBestGaps (base_address header.words) (words_there file header) gaps

-- these gaps, or none if the restored file holds an image without a fault
pub record HasGapsIfAny (weak : Weak) (restored : List ℕ) (header : Header) (gaps : List Gap) : Type 0 where
  pub sound : IsSound weak restored → gaps ≡ []
  pub unsound : (IsSound weak restored → ⊥) → HasGaps restored header gaps

-- what of the data cannot be read, and what is not there
pub record LacksData (weak : Weak) (file : List ℕ) (header : Header) (damage : Damage) : Type 0 where
  pub missing : damage.missing ≡ missing_bytes file header
  pub place : IsPlaceOfLoss file header damage.missing damage.place
  pub gaps : HasGapsIfAny weak (restored file header damage.missing damage.place) header damage.gaps.items

-- what of the data cannot be read: nothing of a file that holds an image without a fault
pub record IsDamageOf (weak : Weak) (file : List ℕ) (header : Header) (damage : Damage) : Type 0 where
  pub sound : IsSound weak file → IsNone damage
  pub unsound : (IsSound weak file → ⊥) → LacksData weak file header damage
