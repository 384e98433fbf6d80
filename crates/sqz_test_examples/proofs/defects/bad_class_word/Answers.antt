use Rattle.std.proofs.Common.{[], ◌∷◌, Some, None, refl}
use Rattle.sqz_object.specs.declared.order.Order.TheVariants.{Little}
use Rattle.sqz_trace.specs.declared.weak.Weak.TheVariants.{Keep}
use Rattle.sqz_test_examples.proofs.WorkedImages.{IsRefused-for_defect}
use Rattle.sqz_test_examples.proofs.defects.bad_class_word.Goals as goal

pub returns : goal.returns
returns c =
    IsRefused-for_defect Keep _ Little _ ((Some (0 ∷ [])) ∷ None ∷ None ∷ (Some (3 ∷ [])) ∷ (Some []) ∷ [])
    refl refl refl refl refl
