use Rattle.std.proofs.Common.{[], ◌∷◌, Some, None, refl}
use Rattle.sqz_object.specs.declared.order.Order.TheVariants.{Little}
use Rattle.sqz_trace.specs.declared.weak.Weak.TheVariants.{Keep}
use Rattle.sqz_test_examples.proofs.WorkedImages.{CompactsTo-computed}
use Rattle.sqz_test_examples.proofs.compacted.traced_formats.Goals as goal

pub returns : goal.returns
returns c =
    CompactsTo-computed Keep _ Little _
    ((Some (2 ∷ 3 ∷ 4 ∷ 5 ∷ 6 ∷ 0 ∷ [])) ∷ None ∷ (Some (2 ∷ [])) ∷ (Some (2 ∷ 3 ∷ [])) ∷ (Some (2 ∷ 3 ∷ 4 ∷ [])) ∷
    (Some (2 ∷ 3 ∷ 4 ∷ 5 ∷ [])) ∷ (Some (2 ∷ 3 ∷ 4 ∷ 5 ∷ 6 ∷ [])) ∷ (Some []) ∷ [])
    refl refl refl refl refl refl
