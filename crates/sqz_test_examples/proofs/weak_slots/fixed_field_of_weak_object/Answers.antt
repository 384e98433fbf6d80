use Rattle.std.proofs.Common.{[], ◌∷◌, Some, None, refl}
use Rattle.sqz_object.specs.declared.order.Order.TheVariants.{Little}
use Rattle.sqz_trace.specs.declared.weak.Weak.TheVariants.{Clear}
use Rattle.sqz_test_examples.proofs.WorkedImages.{CompactsTo-computed}
use Rattle.sqz_test_examples.proofs.weak_slots.fixed_field_of_weak_object.Goals as goal

pub returns : goal.returns
returns c =
    CompactsTo-computed Clear _ Little _
    ((Some (0 ∷ [])) ∷ (Some (4 ∷ 1 ∷ [])) ∷ (Some (4 ∷ 2 ∷ [])) ∷ None ∷ (Some (4 ∷ [])) ∷ (Some []) ∷ [])
    refl refl refl refl refl refl
