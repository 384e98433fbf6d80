use Rattle.std.proofs.Common.{ℕ, List, [], ◌∷◌, Option, Some, None, refl}
use Rattle.sqz_trace.specs.declared.weak.Weak.TheVariants.{Keep}
use Rattle.sqz_test_examples.specs.Shapes.{root_in_cycle}
use Rattle.sqz_test_examples.proofs.DominatorTest.{by_edge, AreImmediate-computed}
use Rattle.sqz_test_examples.proofs.dominators.root_of_a_cycle.Goals as goal

abbrev paths : List (Option (List ℕ))
paths = (Some (0 ∷ [])) ∷ (Some (1 ∷ [])) ∷ (Some []) ∷ []

pub returns : goal.returns
returns c = AreImmediate-computed root_in_cycle Keep 2 paths (by_edge 2 [] 0 ∷ by_edge 2 [] 1 ∷ None ∷ []) refl
