use Rattle.std.proofs.Common.{◌≡◌, ℕ, ◌≤◌, true, false, not, eqb, List, [], ◌∷◌, length, refl, subst, arith, rules}
use Rattle.sqz_trace.specs.declared.weak.Weak.TheVariants.{Keep}
use Rattle.sqz_image.specs.declared.slot.Slot.TheVariants.{ClassWord, Field}
use Rattle.sqz_trace.specs.Edges.{out_edges}
use Rattle.sqz_trace.specs.Graph.{Leads}
use Rattle.sqz_trace.specs.Reachability.{graph_from}
use Rattle.sqz_test_examples.specs.ClassEdge.{class_edge}
use Rattle.sqz_test_examples.proofs.PathTest.{IsFirstSlotTo-computed}
use Rattle.sqz_test_examples.proofs.TracingTest.{has_edge-true, targets_pass}
use Rattle.sqz_test_examples.proofs.questions.path_by_a_class_word.Goals as goal

-- no edge leads from the special objects array to the class
two_at_least : (path : List ℕ) → Leads (graph_from 4 class_edge Keep) 4 path 2 → 2 ≤ length path
two_at_least [] leads = absurd (omega (arith, leads))
two_at_least (next ∷ []) leads =
    let other = targets_pass class_edge Keep (λ (to : ℕ). not (eqb to 2)) 4 next refl leads.0 in
    let none : false ≡ true = subst (λ (to : ℕ). not (eqb to 2) ≡ true) leads.1 other in absurd cc
two_at_least (next ∷ after ∷ path) leads = omega arith

pub returns : goal.returns
returns c =
    record {
      start = 4;
      is_special = refl;
      inside = search rules;
      leads = (has_edge-true class_edge Keep 4 3 refl, (has_edge-true class_edge Keep 3 2 refl, refl));
      by_slots = (
        IsFirstSlotTo-computed (out_edges class_edge Keep 4) 3 (Field 1) (ClassWord ∷ Field 0 ∷ []) [] refl refl refl,
        (IsFirstSlotTo-computed (out_edges class_edge Keep 3) 2 ClassWord [] (Field 0 ∷ []) refl refl refl, refl),
      );
      shortest = two_at_least;
    }
