use Rattle.std.proofs.Common.{[], ◌∷◌, Some, refl}
use Rattle.sqz_object.specs.declared.order.Order.TheVariants.{Little}
use Rattle.sqz_trace.specs.declared.weak.Weak.TheVariants.{Clear}
use Rattle.sqz_test_examples.proofs.WorkedImages.{IsRefused-for_defect}
use Rattle.sqz_test_examples.proofs.weak_slots.weak_slot_names_nothing.Goals as goal

pub returns : goal.returns
returns c =
    IsRefused-for_defect Clear _ Little _ ((Some (0 ∷ [])) ∷ (Some (2 ∷ 1 ∷ [])) ∷ (Some (2 ∷ [])) ∷ (Some []) ∷ [])
    refl refl refl refl refl
