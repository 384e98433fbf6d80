use Rattle.std.proofs.Common.{true, false, ℕ, List, [], ◌∷◌, Option, Some, None, refl}
use Rattle.sqz_trace.specs.declared.weak.Weak.TheVariants.{Keep}
use Rattle.sqz_test_examples.specs.Shapes.{cycle_with_two_entries}
use Rattle.sqz_test_examples.proofs.DominatorTest.{by_edge, AreImmediate-computed}
use Rattle.sqz_test_examples.proofs.RetainedTest.{IsRetained-computed}
use Rattle.sqz_test_examples.proofs.dominators.cycle_entered_at_both.Goals as goal

abbrev paths : List (Option (List ℕ))
paths = (Some (0 ∷ [])) ∷ (Some (1 ∷ [])) ∷ (Some (2 ∷ [])) ∷ (Some []) ∷ []

pub returns-clause-immediate : goal.returns-clause-immediate
returns-clause-immediate c =
    AreImmediate-computed cycle_with_two_entries Keep 3 paths (by_edge 3 [] 0 ∷ by_edge 3 [] 1 ∷ by_edge 3 [] 2 ∷ None ∷ []) refl

pub returns-clause-retained : goal.returns-clause-retained
returns-clause-retained c =
    IsRetained-computed cycle_with_two_entries Keep 3 1 (true ∷ false ∷ true ∷ true ∷ []) paths (record { objects = 1; bytes = 8 }) refl
