use Rattle.std.proofs.Common.{true, false, ℕ, List, [], ◌∷◌, Option, Some, None, refl}
use Rattle.sqz_trace.specs.declared.weak.Weak.TheVariants.{Keep}
use Rattle.sqz_dominators.specs.Retained.{nothing}
use Rattle.sqz_test_examples.specs.DeadCycle.{dead_cycle}
use Rattle.sqz_test_examples.proofs.DominatorTest.{by_edge, AreImmediate-computed}
use Rattle.sqz_test_examples.proofs.RetainedTest.{IsRetained-computed}
use Rattle.sqz_test_examples.proofs.dominators.dead_objects.Goals as goal

abbrev paths : List (Option (List ℕ))
paths = (Some (0 ∷ [])) ∷ (Some (1 ∷ [])) ∷ None ∷ (Some (1 ∷ 3 ∷ [])) ∷ None ∷ (Some []) ∷ []

pub returns-clause-immediate : goal.returns-clause-immediate
returns-clause-immediate c =
    AreImmediate-computed dead_cycle Keep 5 paths
    (by_edge 5 [] 0 ∷ by_edge 5 [] 1 ∷ None ∷ by_edge 1 (true ∷ false ∷ false ∷ false ∷ false ∷ true ∷ []) 3 ∷ None ∷ None ∷ [])
    refl

pub returns-clause-retained : goal.returns-clause-retained
returns-clause-retained c =
    IsRetained-computed dead_cycle Keep 5 2 (true ∷ true ∷ false ∷ true ∷ false ∷ true ∷ []) paths nothing refl
