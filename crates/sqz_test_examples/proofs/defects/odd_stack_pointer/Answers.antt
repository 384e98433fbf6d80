use Rattle.std.proofs.Common.{[], ◌∷◌, Some, refl}
use Rattle.sqz_object.specs.declared.order.Order.TheVariants.{Little}
use Rattle.sqz_trace.specs.declared.weak.Weak.TheVariants.{Keep}
use Rattle.sqz_test_examples.proofs.WorkedImages.{IsRefused-for_defect}
use Rattle.sqz_test_examples.proofs.defects.odd_stack_pointer.Goals as goal

pub returns : goal.returns
returns c =
    IsRefused-for_defect Keep _ Little _ ((Some (0 ∷ [])) ∷ (Some (1 ∷ [])) ∷ (Some []) ∷ [])
    refl refl refl refl refl
