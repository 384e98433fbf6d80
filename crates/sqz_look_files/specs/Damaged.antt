-- What is read of files past what cannot be read.
use Rattle.std.specs.Prelude.{◌≡◌, ◌⊎◌, ℕ, Bool, true, false, List, Option}
use Rattle.sqz_image.specs.declared.header.Header.{Header}
use Rattle.sqz_image.specs.Objects.{SavedImage}
use Rattle.sqz_image.specs.Refusals.{Holds}
use Rattle.sqz_trace.specs.declared.weak.Weak.{Weak}
use Rattle.sqz_damage.specs.declared.mend.damage.Damage.{Damage}
use Rattle.sqz_damage.specs.declared.mend.recovery.Recovered.{Recovered}
use Rattle.sqz_damage.specs.Damaged.{HasSoundWords, IsDamageOf, IsNone}
use Rattle.sqz_damage.specs.Recovery.{IsRecovered}
use Rattle.sqz_look_files.specs.declared.loading.Loaded.TheVariants as loaded
use Rattle.sqz_look_files.specs.declared.loading.LoadedPast.{LoadedPast}
use Rattle.sqz_look_files.specs.declared.loading.LoadedPast.TheVariants as past
use Rattle.sqz_look_files.specs.declared.session.ReadFile.{ReadFile}
use Rattle.sqz_look_files.specs.declared.session.ReadFile.TheVariants as read
use Rattle.sqz_look_files.specs.Checks.{ReadsFile, ReadsSome, HoldsNone, IsLoaded}

-- the data of a file with these bytes lack something: there is a gap, or the file is shorter than its
-- header states
pub record IsDamaged (weak : Weak) (bytes : List ℕ) : Type 0 where
  pub header : Header
  pub is_header : HasSoundWords bytes header
  pub damage : Damage
  pub is_damage : IsDamageOf weak bytes header damage
  pub some : IsNone damage → ⊥

-- what a file with these bytes holds past what cannot be read: this image, or none
abbrev pub IsHeldPast : Weak → List ℕ → LoadedPast → Type 0
IsHeldPast weak bytes (past.Image recovered) = IsRecovered weak bytes recovered
IsHeldPast weak bytes (past.Unreadable unreadable) = HoldsNone bytes ⊎ IsDamaged weak bytes

-- some file was read, and holds this past what cannot be read
pub record IsLoadedPast {F : Type 0} (left : F → Option (List ℕ)) (weak : Weak) (loaded : LoadedPast) : Type 0 where
  pub bytes : List ℕ
  pub read : ReadsFile left bytes
  pub held : IsHeldPast weak bytes loaded

-- a damaged file was read, as it was asked for
abbrev pub ReadsDamaged : {F : Type 0} → (F → Option (List ℕ)) → Weak → Bool → Type 0
ReadsDamaged left weak past = (past ≡ true) × ReadsSome left (IsDamaged weak)

-- what was read of some file: a whole image, of which nothing was printed, or one of which
-- something was skipped, or none
abbrev pub IsReadAs : {F E : Type 0} → (F → Option (List ℕ)) → Weak → Bool → E → E → ReadFile → Type 0
IsReadAs left weak past old new (read.Image image) =
    (image.is_whole ≡ true → (new ≡ old) × IsLoaded left (loaded.Image image.image))
    × (image.is_whole ≡ false → ReadsDamaged left weak past)
IsReadAs left weak past old new (read.Unreadable unreadable) = ReadsSome left HoldsNone ⊎ ReadsDamaged left weak past

-- the image that a file with these bytes holds past what cannot be read
pub record HoldsPast (weak : Weak) (bytes : List ℕ) (image : SavedImage) : Type 0 where
  pub recovered : Recovered
  pub is_recovered : IsRecovered weak bytes recovered
  pub same : recovered.image ≡ image

-- the image that is read of a file with these bytes: the one that it holds, or the one that it holds
-- past what cannot be read, if that is asked for
abbrev pub IsImageOf : Weak → Bool → List ℕ → SavedImage → Type 0
IsImageOf weak false bytes image = Holds bytes image
IsImageOf weak true bytes image = HoldsPast weak bytes image

-- an image that was read is that of some file
abbrev pub IsReadImage : {F : Type 0} → (F → Option (List ℕ)) → Weak → Bool → ReadFile → Type 0
IsReadImage left weak past (read.Image image) = ReadsSome left (λ bytes. IsImageOf weak past bytes image.image)
IsReadImage left weak past (read.Unreadable unreadable) = Unit {0}
