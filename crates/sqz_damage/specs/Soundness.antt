-- Whether a file holds an image without a fault.
use Rattle.std.specs.Prelude.{◌≡◌, ◌⊎◌, ℕ, Bool, List, Option, Some, None}
use Rattle.sqz_image.specs.declared.fault.Fault.{Fault}
use Rattle.sqz_image.specs.Objects.{SavedImage}
use Rattle.sqz_image.specs.Refusals.{Holds, IsUnreadable}
use Rattle.sqz_trace.specs.declared.weak.Weak.{Weak}
use Rattle.sqz_trace.specs.Faults.{first_fault}
use Rattle.sqz_trace.specs.Reachability.{IsReachability}

-- the file holds an image, and a fact of its first fault is true; the marks are those of its
-- reachable objects
pub record HasFirstFault (weak : Weak) (P : Option Fault → Type 0) (bytes : List ℕ) : Type 0 where
  pub image : SavedImage
  pub holds : Holds bytes image
  pub marks : List Bool
  pub reachable : ∥ IsReachability image.memory weak marks ∥₁
  pub fault : P (first_fault image.memory weak marks)

-- the file holds an image without a fault for which a compaction rejects it
abbrev pub IsSound : Weak → List ℕ → Type 0
IsSound weak bytes = HasFirstFault weak (λ fault. fault ≡ None) bytes

-- a compaction rejects the file for this fault
abbrev pub HasFault : Weak → List ℕ → Fault → Type 0
HasFault weak bytes fault = HasFirstFault weak (λ first. first ≡ Some fault) bytes ⊎ IsUnreadable bytes fault
