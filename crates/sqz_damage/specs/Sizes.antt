-- How much of an image is live.
use Rattle.std.specs.Prelude.{◌≡◌, Bool, List, ℕ, length, None}
use Rattle.sqz_image.specs.Objects.{Memory, SavedImage}
use Rattle.sqz_image.specs.Refusals.{Holds}
use Rattle.sqz_trace.specs.declared.weak.Weak.{Weak}
use Rattle.sqz_trace.specs.Dead.{bytes_in}
use Rattle.sqz_trace.specs.Faults.{first_fault}
use Rattle.sqz_trace.specs.Live.{live}
use Rattle.sqz_trace.specs.Reachability.{IsReachability}
use Rattle.sqz_damage.specs.declared.repaired.sizes.LiveSize.{LiveSize}

-- the number and the bytes of the marked objects
pub record IsLiveSize (memory : Memory) (marks : List Bool) (size : LiveSize) : Type 0 where
  pub objects : size.objects ≡ length (live memory marks)
  pub bytes : size.bytes ≡ bytes_in (live memory marks)

-- the file holds an image without a fault, and so much of it is live
pub record IsSoundWith (weak : Weak) (file : List ℕ) (size : LiveSize) : Type 0 where
  pub image : SavedImage
  pub holds : Holds file image
  pub marks : List Bool
  pub reachable : ∥ IsReachability image.memory weak marks ∥₁
  pub sound : first_fault image.memory weak marks ≡ None
  pub is_size : IsLiveSize image.memory marks size
