use Rattle.std.proofs.Common.{Bool, true, false, ℕ, List, [], ◌∷◌, Option, Some, None, refl}
use Rattle.sqz_trace.specs.declared.weak.Weak.TheVariants.{Keep, Clear}
use Rattle.sqz_test_examples.specs.Shapes.{weak_fields}
use Rattle.sqz_test_examples.proofs.DominatorTest.{by_edge, AreImmediate-computed}
use Rattle.sqz_test_examples.proofs.RetainedTest.{IsRetained-computed}
use Rattle.sqz_test_examples.proofs.dominators.target_of_a_weak_slot.Goals as goal

-- the objects that are reachable without object 3
abbrev without : List Bool
without = true ∷ false ∷ false ∷ false ∷ true ∷ []

abbrev paths : Option (List ℕ) → List (Option (List ℕ))
paths to_two = (Some (0 ∷ [])) ∷ (Some (3 ∷ 1 ∷ [])) ∷ to_two ∷ (Some (3 ∷ [])) ∷ (Some []) ∷ []

pub returns-clause-kept : goal.returns-clause-kept
returns-clause-kept c =
    AreImmediate-computed weak_fields Keep 4 (paths (Some (3 ∷ 2 ∷ [])))
    (by_edge 4 [] 0 ∷ by_edge 3 without 1 ∷ by_edge 3 without 2 ∷ by_edge 4 [] 3 ∷ None ∷ []) refl

pub returns-clause-cleared : goal.returns-clause-cleared
returns-clause-cleared c =
    AreImmediate-computed weak_fields Clear 4 (paths None)
    (by_edge 4 [] 0 ∷ by_edge 3 without 1 ∷ None ∷ by_edge 4 [] 3 ∷ None ∷ []) refl

pub returns-clause-retained_if_kept : goal.returns-clause-retained_if_kept
returns-clause-retained_if_kept c =
    IsRetained-computed weak_fields Keep 4 3 without (paths (Some (3 ∷ 2 ∷ []))) (record { objects = 3; bytes = 36 }) refl

pub returns-clause-retained_if_cleared : goal.returns-clause-retained_if_cleared
returns-clause-retained_if_cleared c =
    IsRetained-computed weak_fields Clear 4 3 without (paths None) (record { objects = 2; bytes = 28 }) refl
