-- Warnings of images that are not sound or large, of which something was skipped, or in which pointers
-- became nil.
use Rattle.std.specs.Prelude.{◌≡◌, ◌⊎◌, ◌<◌, ℕ, Bool, List, Option}
use Rattle.sqz_image.specs.Objects.{SavedImage, object_count}
use Rattle.sqz_trace.specs.declared.weak.Weak.{Weak}
use Rattle.sqz_look_files.specs.Damaged.{IsImageOf}
use Rattle.sqz_look_files.specs.Checks.{ReadsSome}
use Rattle.sqz_look_files.specs.Verdicts.{ReadsUnsound}
use Rattle.sqz_look_files.specs.Mending.{ReadsDangling}

-- the most objects of which a page is written without a warning
abbrev pub most_objects : ℕ
most_objects = 4000000

-- the image that is read of a file with these bytes has more
pub record IsLarge (weak : Weak) (past : Bool) (bytes : List ℕ) : Type 0 where
  pub image : SavedImage
  pub is_image : IsImageOf weak past bytes image
  pub many : most_objects < object_count image.memory

-- nothing was printed, unless some file was read that is not sound, in which something dangles, or
-- whose image is large
abbrev pub IsSilent : {F E : Type 0} → (F → Option (List ℕ)) → Weak → Bool → E → E → Type 0
IsSilent left weak past old new =
    (new ≡ old) ⊎ ReadsUnsound left weak past ⊎ ReadsDangling left weak ⊎ ReadsSome left (IsLarge weak past)
