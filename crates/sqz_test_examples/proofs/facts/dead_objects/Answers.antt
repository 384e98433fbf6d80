use Rattle.std.proofs.Common.{◌≡◌, ℕ, zero, suc, ◌<◌, true, false, not, [], ◌∷◌, refl, arith}
use Rattle.sqz_trace.specs.Graph.{is_marked}
use Rattle.sqz_test_examples.specs.ClassEdge.{class_edge_marks}
use Rattle.sqz_test_examples.proofs.facts.dead_objects.Goals as goal

each : (index : ℕ) → index < 5
    → is_marked (false ∷ true ∷ false ∷ false ∷ false ∷ []) index ≡ not (is_marked class_edge_marks index)
each zero lt = refl
each (suc zero) lt = refl
each (suc (suc zero)) lt = refl
each (suc (suc (suc zero))) lt = refl
each (suc (suc (suc (suc zero)))) lt = refl
each (suc (suc (suc (suc (suc index))))) lt = absurd (omega arith)

pub returns-clause-complement : goal.returns-clause-complement
returns-clause-complement c = record { sized = refl; each = each }
