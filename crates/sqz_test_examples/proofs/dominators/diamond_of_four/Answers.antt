use Rattle.std.proofs.Common.{Bool, true, false, ℕ, List, [], ◌∷◌, Option, Some, None, refl}
use Rattle.sqz_trace.specs.declared.weak.Weak.TheVariants.{Keep}
use Rattle.sqz_test_examples.specs.Shapes.{diamond}
use Rattle.sqz_test_examples.proofs.DominatorTest.{Evidence, by_edge, AreImmediate-computed}
use Rattle.sqz_test_examples.proofs.RetainedTest.{IsRetained-computed}
use Rattle.sqz_test_examples.proofs.dominators.diamond_of_four.Goals as goal

-- the path to object 4 is the one that object 2 is not on
abbrev paths : List (Option (List ℕ))
paths =
    (Some (0 ∷ [])) ∷ (Some (1 ∷ [])) ∷ (Some (1 ∷ 2 ∷ [])) ∷ (Some (1 ∷ 3 ∷ [])) ∷ (Some (1 ∷ 3 ∷ 4 ∷ [])) ∷ (Some []) ∷ []

-- the objects that are reachable without object 1
abbrev without : List Bool
without = true ∷ false ∷ false ∷ false ∷ false ∷ true ∷ []

abbrev join : Option Evidence
join = Some (record { by = 1; without = without; one = 2 ∷ 4 ∷ []; two = 3 ∷ 4 ∷ [] })

pub returns-clause-immediate : goal.returns-clause-immediate
returns-clause-immediate c =
    AreImmediate-computed diamond Keep 5 paths
    (by_edge 5 [] 0 ∷ by_edge 5 [] 1 ∷ by_edge 1 without 2 ∷ by_edge 1 without 3 ∷ join ∷ None ∷ []) refl

pub returns-clause-top : goal.returns-clause-top
returns-clause-top c =
    IsRetained-computed diamond Keep 5 1 without paths (record { objects = 4; bytes = 36 }) refl

pub returns-clause-side : goal.returns-clause-side
returns-clause-side c =
    IsRetained-computed diamond Keep 5 2 (true ∷ true ∷ false ∷ true ∷ true ∷ true ∷ []) paths (record { objects = 1; bytes = 8 }) refl
