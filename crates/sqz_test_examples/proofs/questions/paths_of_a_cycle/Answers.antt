use Rattle.std.proofs.Common.{◌≡◌, ℕ, ◌≤◌, true, false, not, eqb, List, [], ◌∷◌, length}
use Rattle.std.proofs.Common.{Option, Some, None, refl, subst, arith, rules}
use Rattle.sqz_trace.specs.declared.weak.Weak.TheVariants.{Keep}
use Rattle.sqz_image.specs.declared.slot.Slot.TheVariants.{ClassWord, Field}
use Rattle.sqz_trace.specs.Edges.{out_edges}
use Rattle.sqz_trace.specs.Graph.{Leads}
use Rattle.sqz_trace.specs.Reachability.{graph_from}
use Rattle.sqz_test_examples.specs.DeadCycle.{dead_cycle}
use Rattle.sqz_test_examples.proofs.PathTest.{IsFirstSlotTo-computed}
use Rattle.sqz_test_examples.proofs.TracingTest.{has_edge-true, is_tracing-true, targets_pass}
use Rattle.sqz_test_examples.proofs.questions.paths_of_a_cycle.Goals as goal

-- no edge leads from the special objects array into the cycle's second object
two_at_least : (path : List ℕ) → Leads (graph_from 5 dead_cycle Keep) 5 path 3 → 2 ≤ length path
two_at_least [] leads = absurd (omega (arith, leads))
two_at_least (next ∷ []) leads =
    let other = targets_pass dead_cycle Keep (λ (to : ℕ). not (eqb to 3)) 5 next refl leads.0 in
    let none : false ≡ true = subst (λ (to : ℕ). not (eqb to 3) ≡ true) leads.1 other in absurd cc
two_at_least (next ∷ after ∷ path) leads = omega arith

abbrev paths : List (Option (List ℕ))
paths = (Some (0 ∷ [])) ∷ (Some (1 ∷ [])) ∷ None ∷ (Some (1 ∷ 3 ∷ [])) ∷ None ∷ (Some []) ∷ []

pub returns-clause-into : goal.returns-clause-into
returns-clause-into c =
    record {
      start = 5;
      is_special = refl;
      inside = search rules;
      leads = (has_edge-true dead_cycle Keep 5 1 refl, (has_edge-true dead_cycle Keep 1 3 refl, refl));
      by_slots = (
        IsFirstSlotTo-computed (out_edges dead_cycle Keep 5) 1 (Field 1) (ClassWord ∷ Field 0 ∷ []) [] refl refl refl,
        (IsFirstSlotTo-computed (out_edges dead_cycle Keep 1) 3 (Field 0) (ClassWord ∷ []) [] refl refl refl, refl),
      );
      shortest = two_at_least;
    }

pub returns-clause-special : goal.returns-clause-special
returns-clause-special c =
    record { start = 5; is_special = refl; inside = search rules; leads = refl; by_slots = refl; shortest = λ path leads. omega arith }

pub returns-clause-dead : goal.returns-clause-dead
returns-clause-dead c =
    let reach = is_tracing-true dead_cycle Keep paths refl in
    record {
      start = reach.start;
      is_special = reach.is_special;
      none = λ reachable. let marked : false ≡ true = reach.reached.complete 2 reachable in absurd cc;
    }
