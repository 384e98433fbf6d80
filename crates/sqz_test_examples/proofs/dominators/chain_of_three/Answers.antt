use Rattle.std.proofs.Common.{true, false, ℕ, List, [], ◌∷◌, Option, Some, None, refl}
use Rattle.sqz_trace.specs.declared.weak.Weak.TheVariants.{Keep}
use Rattle.sqz_test_examples.specs.Shapes.{chain}
use Rattle.sqz_test_examples.proofs.DominatorTest.{by_edge, AreImmediate-computed}
use Rattle.sqz_test_examples.proofs.RetainedTest.{IsRetained-computed}
use Rattle.sqz_test_examples.proofs.dominators.chain_of_three.Goals as goal

abbrev paths : List (Option (List ℕ))
paths = (Some (0 ∷ [])) ∷ (Some (1 ∷ [])) ∷ (Some (1 ∷ 2 ∷ [])) ∷ (Some (1 ∷ 2 ∷ 3 ∷ [])) ∷ (Some []) ∷ []

pub returns-clause-immediate : goal.returns-clause-immediate
returns-clause-immediate c =
    AreImmediate-computed chain Keep 4 paths
    (by_edge 4 [] 0 ∷ by_edge 4 [] 1 ∷ by_edge 1 (true ∷ false ∷ false ∷ false ∷ true ∷ []) 2
    ∷ by_edge 2 (true ∷ true ∷ false ∷ false ∷ true ∷ []) 3 ∷ None ∷ []) refl

pub returns-clause-middle : goal.returns-clause-middle
returns-clause-middle c =
    IsRetained-computed chain Keep 4 2 (true ∷ true ∷ false ∷ false ∷ true ∷ []) paths (record { objects = 2; bytes = 16 }) refl

pub returns-clause-root : goal.returns-clause-root
returns-clause-root c = IsRetained-computed chain Keep 4 4 [] paths (record { objects = 5; bytes = 40 }) refl
