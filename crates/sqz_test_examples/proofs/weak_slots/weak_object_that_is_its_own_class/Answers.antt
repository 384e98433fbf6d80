use Rattle.std.proofs.Common.{[], ◌∷◌, Some, None, refl}
use Rattle.sqz_object.specs.declared.order.Order.TheVariants.{Little}
use Rattle.sqz_trace.specs.declared.weak.Weak.TheVariants.{Clear}
use Rattle.sqz_test_examples.proofs.WorkedImages.{CompactsTo-computed}
use Rattle.sqz_test_examples.proofs.weak_slots.weak_object_that_is_its_own_class.Goals as goal

pub returns : goal.returns
returns c =
    CompactsTo-computed Clear _ Little _ ((Some (0 ∷ [])) ∷ None ∷ (Some (2 ∷ [])) ∷ (Some []) ∷ [])
    refl refl refl refl refl refl
