-- Whether files hold sound images, and the exits that say so.
use Rattle.std.specs.Prelude.{◌≡◌, ◌≢◌, ◌⊎◌, ℕ, Bool, true, false, List, Option, None}
use Rattle.sqz_image.specs.declared.fault.Fault.{Fault}
use Rattle.sqz_image.specs.Devices.{SourceState, new_source}
use Rattle.sqz_image.specs.Fronts.{ReadsEnough}
use Rattle.sqz_image.specs.Objects.{SavedImage}
use Rattle.sqz_image.specs.Refusals.{Holds, IsUnreadable}
use Rattle.sqz_trace.specs.declared.weak.Weak.{Weak}
use Rattle.sqz_trace.specs.Reachability.{IsReachability}
use Rattle.sqz_damage.specs.Soundness.{HasFirstFault, IsSound}
use Rattle.sqz_look_check.specs.Warned.{HasFindings}
use Rattle.sqz_look_files.specs.declared.loading.Loaded.{Loaded}
use Rattle.sqz_look_files.specs.declared.loading.Loaded.TheVariants.{Image, Unreadable}

-- some file, of type F, was read and gave these bytes: to its end, or its first ones if no file that
-- begins with them holds an image; `left` is the bytes that an open file has left, if contracts see
-- them
pub record ReadsFile {F : Type 0} (left : F → Option (List ℕ)) (bytes : List ℕ) : Type 0 where
  pub file : F
  pub to : SourceState
  pub read : ReadsEnough true (new_source (left file)) to bytes

-- the file holds no image, for some fault
abbrev pub HoldsNone : List ℕ → Type 0
HoldsNone bytes = (fault : Fault) × IsUnreadable bytes fault

-- what a file with these bytes holds: this image, or none
abbrev pub IsHeldBy : List ℕ → Loaded → Type 0
IsHeldBy bytes (Image image) = Holds bytes image
IsHeldBy bytes (Unreadable unreadable) = HoldsNone bytes

-- some file was read, and holds this
pub record IsLoaded {F : Type 0} (left : F → Option (List ℕ)) (loaded : Loaded) : Type 0 where
  pub bytes : List ℕ
  pub read : ReadsFile left bytes
  pub held : IsHeldBy bytes loaded

-- the file holds an image with such a fault, or no image
abbrev pub IsUnsound : Weak → List ℕ → Type 0
IsUnsound weak bytes = HasFirstFault weak (λ fault. fault ≢ None) bytes ⊎ HoldsNone bytes

-- the file holds an image, and a strict check finds something of it, or nothing
pub record IsStrictly (weak : Weak) (bytes : List ℕ) (some : Bool) : Type 0 where
  pub image : SavedImage
  pub holds : Holds bytes image
  pub marks : List Bool
  pub reachable : ∥ IsReachability image.memory weak marks ∥₁
  pub has : HasFindings image.memory weak marks some

-- the file holds a sound image, about which there is no warning if these are asked for
pub record IsClean (weak : Weak) (strict : Bool) (bytes : List ℕ) : Type 0 where
  pub sound : IsSound weak bytes
  pub no_warning : strict ≡ true → IsStrictly weak bytes false

-- some file was read, and a fact of its bytes is true
pub record ReadsSome {F : Type 0} (left : F → Option (List ℕ)) (P : List ℕ → Type 0) : Type 0 where
  pub bytes : List ℕ
  pub read : ReadsFile left bytes
  pub fact : P bytes
