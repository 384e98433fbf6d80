use Rattle.std.proofs.Common.{◌≡◌, ℕ, ◌≤◌, [], ◌∷◌, Some, refl, sym, subst, arith}
use Rattle.std.proofs.lemmas.Option.{same_Some}
use Rattle.sqz_image.specs.declared.slot.Slot.TheVariants.{Field}
use Rattle.sqz_trace.specs.declared.weak.Weak.TheVariants.{Keep}
use Rattle.sqz_trace.specs.Edges.{strong_target}
use Rattle.sqz_trace.specs.Graph.{Leads}
use Rattle.sqz_trace.specs.Reachability.{graph_from}
use Rattle.sqz_test_examples.specs.DeadCycle.{dead_cycle}
use Rattle.sqz_test_examples.proofs.TracingTest.{has_edge-true}
use Rattle.sqz_test_examples.proofs.questions.no_shortest_paths.Goals as goal

pub returns-clause-round : goal.returns-clause-round
returns-clause-round c = λ shortest.
    let start : 5 ≡ shortest.start = same_Some _ _ shortest.is_special in
    let leads = subst (λ (from : ℕ). Leads (graph_from from dead_cycle Keep) from (1 ∷ []) 1) start
    (has_edge-true dead_cycle Keep 5 1 refl, refl) in
    let few : 3 ≤ 1 = shortest.shortest (1 ∷ []) leads in absurd (omega (arith, few))

pub returns-clause-other_slot : goal.returns-clause-other_slot
returns-clause-other_slot c = λ shortest.
    let start : 5 ≡ shortest.start = same_Some _ _ shortest.is_special in
    let named : Some 0 ≡ Some 1 =
    subst (λ (from : ℕ). strong_target dead_cycle Keep from (Field 0) ≡ Some 1) (sym start) shortest.by_slots.0.names in
    absurd (omega (arith, same_Some _ _ named))
