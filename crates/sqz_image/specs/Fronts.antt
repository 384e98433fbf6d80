-- Reading only the first bytes of a file, if they show that it holds no image.
use Rattle.std.specs.Prelude.{◌≡◌, ◌⊎◌, ℕ, Bool, false, List, ◌++◌, Some}
use Rattle.std.specs.Io.KnownBytes.{Consumes}
use Rattle.sqz_image.specs.declared.fault.Fault.{Fault}
use Rattle.sqz_image.specs.declared.read_whole.Extent.{Extent}
use Rattle.sqz_image.specs.declared.read_whole.Extent.TheVariants.{Whole, Image}
use Rattle.sqz_image.specs.Devices.{SourceState, IsUnfinished, ReadsWhole}
use Rattle.sqz_image.specs.Refusals.{file_fault}

-- no file that begins with these bytes holds an image: each has this fault, whatever follows
pub record BeginsNoImage (front : List ℕ) : Type 0 where
  pub fault : Fault
  pub always : (rest : List ℕ) → file_fault (front ++ rest) ≡ Some fault

-- the source gave these bytes, without an end, and they are the beginning of no image
pub record ReadsFront (old new : SourceState) (front : List ℕ) : Type 0 where
  pub bytes : Consumes old.left new.left front
  pub started_sound : old.failed ≡ false
  pub unfinished : IsUnfinished old new
  pub no_image : BeginsNoImage front

-- the source gave these bytes, which are all that it gives, or are the beginning of no image
abbrev pub ReadsEnough : Bool → SourceState → SourceState → List ℕ → Type 0
ReadsEnough gives_all old new file = ReadsWhole gives_all old new file ⊎ ReadsFront old new file

-- the source gave these bytes, as many as were asked for
abbrev pub ReadsAsAsked : Extent → Bool → SourceState → SourceState → List ℕ → Type 0
ReadsAsAsked Whole gives_all old new file = ReadsWhole gives_all old new file
ReadsAsAsked Image gives_all old new file = ReadsEnough gives_all old new file
