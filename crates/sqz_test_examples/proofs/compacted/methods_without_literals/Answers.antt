use Rattle.std.proofs.Common.{[], ◌∷◌, Some, refl}
use Rattle.sqz_object.specs.declared.order.Order.TheVariants.{Little}
use Rattle.sqz_trace.specs.declared.weak.Weak.TheVariants.{Keep}
use Rattle.sqz_test_examples.proofs.WorkedImages.{CompactsTo-computed}
use Rattle.sqz_test_examples.proofs.compacted.methods_without_literals.Goals as goal

pub returns : goal.returns
returns c =
    CompactsTo-computed Keep _ Little _
    ((Some (0 ∷ [])) ∷ (Some (1 ∷ [])) ∷ (Some (2 ∷ [])) ∷ (Some (3 ∷ [])) ∷ (Some (4 ∷ [])) ∷ (Some []) ∷ [])
    refl refl refl refl refl refl
