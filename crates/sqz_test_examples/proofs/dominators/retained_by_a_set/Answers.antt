use Rattle.std.proofs.Common.{◌≡◌, ℕ, zero, suc, ◌<◌, ◌&&◌, Bool, true, false, not, List, [], ◌∷◌, refl, arith}
use Rattle.sqz_trace.specs.Dead.{IsDifference}
use Rattle.sqz_trace.specs.Graph.{is_marked}
use Rattle.sqz_test_examples.specs.MovedCycle.{cycle_marks}
use Rattle.sqz_test_examples.proofs.WithoutTest.{marks, without_one}
use Rattle.sqz_test_examples.proofs.dominators.retained_by_a_set.Goals as goal

abbrev cut_off : List Bool
cut_off = false ∷ true ∷ false ∷ true ∷ false ∷ false ∷ []

each : (index : ℕ) → index < 6
    → is_marked cut_off index ≡ (is_marked cycle_marks index && not (is_marked marks index))
each zero lt = refl
each (suc zero) lt = refl
each (suc (suc zero)) lt = refl
each (suc (suc (suc zero))) lt = refl
each (suc (suc (suc (suc zero)))) lt = refl
each (suc (suc (suc (suc (suc zero))))) lt = refl
each (suc (suc (suc (suc (suc (suc index)))))) lt = absurd (omega arith)

difference : IsDifference 6 cycle_marks marks cut_off
difference = record { sized = refl; each = each }

pub returns-clause-difference : goal.returns-clause-difference
returns-clause-difference c = difference

pub returns-clause-retained : goal.returns-clause-retained
returns-clause-retained c =
    record { others = marks; without = without_one; cut_off = cut_off; difference = difference; bytes_are = refl }
