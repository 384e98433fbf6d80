-- An image that is a fixed point of compaction.
use Rattle.std.specs.Prelude.{◌≡◌, ℕ, ◌<◌, Bool, true, List}
use Rattle.sqz_image.specs.Objects.{SavedImage, object_count, file_bytes}
use Rattle.sqz_trace.specs.declared.weak.Weak.{Weak}
use Rattle.sqz_trace.specs.Graph.{is_marked}
use Rattle.sqz_tool.specs.Compacted.{compacted}
use Rattle.sqz_tool.specs.Verdict.{IsAccepted}

-- the image's file holds exactly this image and is accepted, all the image's objects are
-- reachable, and compacting it gives the same file
pub record IsFixedPoint (weak : Weak) (image : SavedImage) : Type 0 where
  pub marks : List Bool
  pub accepted : IsAccepted weak (file_bytes image) image marks
  pub all : (index : ℕ) → index < object_count image.memory → is_marked marks index ≡ true
  pub same : file_bytes (compacted image weak marks) ≡ file_bytes image
