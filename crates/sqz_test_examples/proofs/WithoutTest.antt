-- What is reachable in the memory with a dead cycle without its object 1.
use Rattle.std.proofs.Common.{◌≡◌, ℕ, zero, suc, ◌<◌, Bool, true, false, List, [], ◌∷◌, get_or, true≢false, refl, sym, arith, inl, inr}
use Rattle.std.proofs.lemmas.List.Elements.{All-contains}
use Rattle.sqz_trace.specs.declared.weak.Weak.TheVariants.{Keep}
use Rattle.sqz_trace.specs.Avoiding.{IsReachableWithout, IsReachabilityWithout}
use Rattle.sqz_trace.specs.Graph.{Graph, is_marked}
use Rattle.sqz_trace.specs.Reachability.{graph_from}
use Rattle.sqz_test_examples.specs.DeadCycle.{dead_cycle}
use Rattle.sqz_test_examples.proofs.DominatorTest.{on_or_marked}
use Rattle.sqz_test_examples.proofs.TracingTest.{leads_to-true}

abbrev graph : Graph
graph = graph_from 5 dead_cycle Keep

abbrev pub set : List Bool
set = false ∷ true ∷ false ∷ false ∷ false ∷ false ∷ []

abbrev pub marks : List Bool
marks = true ∷ false ∷ false ∷ false ∷ false ∷ true ∷ []

to_nil : IsReachableWithout graph set 0
to_nil =
    record {
      path = 0 ∷ [];
      leads = leads_to-true dead_cycle Keep 5 5 (0 ∷ []) 0 refl;
      start_avoids = refl;
      avoids = avoids;
    }
  where
    avoids : (k d : ℕ) → k < 1 → is_marked set (get_or (0 ∷ []) k d) ≡ false
    avoids zero d lt = refl
    avoids (suc k) d lt = absurd (omega arith)

to_start : IsReachableWithout graph set 5
to_start = record { path = []; leads = refl; start_avoids = refl; avoids = λ k d lt. absurd (omega (arith, lt)) }

sound : (index : ℕ) → is_marked marks index ≡ true → IsReachableWithout graph set index
sound zero m = to_nil
sound (suc zero) m = absurd (true≢false (sym m))
sound (suc (suc zero)) m = absurd (true≢false (sym m))
sound (suc (suc (suc zero))) m = absurd (true≢false (sym m))
sound (suc (suc (suc (suc zero)))) m = absurd (true≢false (sym m))
sound (suc (suc (suc (suc (suc zero))))) m = to_start
sound (suc (suc (suc (suc (suc (suc index)))))) m = absurd (true≢false (sym m))

complete : (index : ℕ) → IsReachableWithout graph set index → is_marked marks index ≡ true
complete index without =
    elim (on_or_marked dead_cycle Keep 5 1 marks refl 5 without.path index refl without.leads) [
      | inl on ↦ absurd (true≢false (All-contains (λ object. is_marked set object ≡ false) without.path 1 without.avoids on))
      | inr marked ↦ marked
    ]

pub without_one : IsReachabilityWithout dead_cycle Keep set marks
without_one =
    record { start = 5; is_special = refl; reached = record { sized = refl; sound = sound; complete = complete } }
