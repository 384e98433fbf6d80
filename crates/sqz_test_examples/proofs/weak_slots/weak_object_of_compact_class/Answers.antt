use Rattle.std.proofs.Common.{[], ◌∷◌, Some, None, refl}
use Rattle.sqz_object.specs.declared.order.Order.TheVariants.{Little}
use Rattle.sqz_trace.specs.declared.weak.Weak.TheVariants.{Clear}
use Rattle.sqz_test_examples.proofs.WorkedImages.{CompactsTo-computed}
use Rattle.sqz_test_examples.proofs.weak_slots.weak_object_of_compact_class.Goals as goal

pub returns : goal.returns
returns c =
    CompactsTo-computed Clear _ Little _
    ((Some (0 ∷ [])) ∷ (Some (4 ∷ 1 ∷ [])) ∷ None ∷ (Some (3 ∷ [])) ∷ (Some (4 ∷ [])) ∷ (Some []) ∷ [])
    refl refl refl refl refl refl
