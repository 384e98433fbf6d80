use Rattle.std.proofs.Common.{ℕ, List, [], ◌∷◌, ◌++◌, replicate, Option, Some, None, refl}
use Rattle.std.specs.List.{concat}
use Rattle.sqz_object.specs.declared.order.Order.TheVariants.{Little}
use Rattle.sqz_object.specs.Bytes.{spelling_of}
use Rattle.sqz_image.specs.Objects.{SavedImage}
use Rattle.sqz_trace.specs.declared.weak.Weak.TheVariants.{Keep}
use Rattle.sqz_tool.specs.Verdict.{IsAccepted}
use Rattle.sqz_tool.proofs.CorrespondenceLemmas.{HasMovedObjects-accepted}
use Rattle.sqz_test_examples.specs.DeadCycle.{dead_cycle}
use Rattle.sqz_test_examples.specs.MovedCycle.{cycle_marks}
use Rattle.sqz_test_examples.proofs.TracingTest.{is_tracing-true, is_tracing-special}
use Rattle.sqz_test_examples.proofs.WorkedImages.{image_in, HasChunks-computed}
use Rattle.sqz_test_examples.proofs.moved_objects.dead_cycle.Goals as goal

-- the file of the image, and paths to its live objects
abbrev file : List ℕ
file =
    spelling_of Little (6502 ∷ 64 ∷ 48 ∷ 0x1000 ∷ 0x1024 ∷ (replicate 11 0 ++ concat dead_cycle.chunks))

abbrev paths : List (Option (List ℕ))
paths = (Some (0 ∷ [])) ∷ (Some (1 ∷ [])) ∷ None ∷ (Some (1 ∷ 3 ∷ [])) ∷ None ∷ (Some []) ∷ []

abbrev image : SavedImage
image = image_in file Little

accepted : IsAccepted Keep file image cycle_marks
accepted =
    record {
      holds =
          record {
            parts = HasChunks-computed file Little refl refl;
            special = is_tracing-special image.memory Keep paths refl;
          };
      has_nil = refl;
      reachable = is_tracing-true image.memory Keep paths refl;
      sound = refl;
    }

pub returns-clause-objects : goal.returns-clause-objects
returns-clause-objects c = HasMovedObjects-accepted Keep file image cycle_marks accepted
