-- Whether a file is accepted, and why it is rejected.
use Rattle.std.specs.Prelude.{◌≡◌, Bool, true, false, List, ℕ, Some, None, ◌⊎◌}
use Rattle.sqz_image.specs.declared.fault.Fault.{Fault}
use Rattle.sqz_image.specs.declared.fault.Fault.TheVariants.{NoNil}
use Rattle.sqz_image.specs.Objects.{SavedImage}
use Rattle.sqz_image.specs.Refusals.{Holds, IsUnreadable}
use Rattle.sqz_trace.specs.declared.weak.Weak.{Weak}
use Rattle.sqz_trace.specs.Reachability.{IsReachability}
use Rattle.sqz_trace.specs.Defects.{first_defect, lacks_nil}

-- the file holds this image, which has the nil that weak slots need, its reachable objects are the
-- marked ones, and none of them has a defect
pub record IsAccepted (weak : Weak) (file : List ℕ) (image : SavedImage) (marks : List Bool) : Type 0 where
  pub holds : Holds file image
  pub has_nil : lacks_nil image.memory weak ≡ false
  pub reachable : IsReachability image.memory weak marks
  pub sound : first_defect image.memory weak marks ≡ None

-- the file holds an image that has no nil for weak slots
pub record LacksNil (weak : Weak) (file : List ℕ) (fault : Fault) : Type 0 where
  pub image : SavedImage
  pub holds : Holds file image
  pub lacks : lacks_nil image.memory weak ≡ true
  pub refused : fault ≡ NoNil

-- the file holds an image, and this is the defect of its lowest reachable object that has one
pub record HasDefect (weak : Weak) (file : List ℕ) (fault : Fault) : Type 0 where
  pub image : SavedImage
  pub marks : List Bool
  pub holds : Holds file image
  pub has_nil : lacks_nil image.memory weak ≡ false
  pub reachable : IsReachability image.memory weak marks
  pub defect : first_defect image.memory weak marks ≡ Some fault

-- the fault with which the file is rejected: the first that applies
abbrev pub IsRefused : Weak → List ℕ → Fault → Type 0
IsRefused weak file fault = IsUnreadable file fault ⊎ LacksNil weak file fault ⊎ HasDefect weak file fault
