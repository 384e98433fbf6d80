-- Marking along paths that avoid a set is marking in the graph without the edges to the set.
-- Serves the functions of `marking` and `marks::Marks::listed`.
use Rattle.std.proofs.Common.{◌≡◌, ℕ, zero, suc, ◌<◌, Bool, true, false, true≢false, List, [], ◌∷◌, ◌++◌, length, set}
use Rattle.std.proofs.Common.{Some, refl, sym, ap, subst, ◌∙◌, arith, inl, inr}
use Rattle.std.specs.Prelude.{replicate, All, Contains}
use Rattle.std.proofs.lemmas.List.{length-set, length-replicate, get_or-set_same, map-set}
use Rattle.std.proofs.lemmas.List.Elements.{Contains-push, Contains-push_cases, Contains-append_left}
use Rattle.sqz_image.specs.declared.slot.Slot.{Slot}
use Rattle.sqz_image.specs.Objects.{Memory, object_count}
use Rattle.sqz_trace.specs.declared.shades.Shade.{Shade}
use Rattle.sqz_trace.specs.declared.shades.Shade.TheVariants.{White, Black}
use Rattle.sqz_trace.specs.declared.weak.Weak.{Weak}
use Rattle.sqz_trace.specs.Avoiding.{MarksReachableWithout, IsReachabilityWithout, Outside, MarksListed}
use Rattle.sqz_trace.specs.Edges.{OutEdges, out_edges, strong_slots, edge_target, IsTargetAmong, HasEdge}
use Rattle.sqz_trace.specs.Graph.{Graph, Leads, is_marked, MarksReachable}
use Rattle.sqz_trace.specs.Marking.{MarksTargets}
use Rattle.sqz_trace.specs.Reachability.{IsReachability}
use Rattle.sqz_trace.specs.Shades.{marks_of}
use Rattle.sqz_trace.proofs.MarkingLemmas.{MarksTargets-then, is_marked-set, is_marked-keeps}
use Rattle.sqz_trace.proofs.ShadeLemmas.{marks_of-replicate, length-marks_of}
use Rattle.sqz_trace.proofs.TargetLemmas.{IsTargetAmong-next, IsTargetAmong-before, IsTargetAmong-last}
use Rattle.sqz_trace.proofs.TargetLemmas.{IsTargetAmong-edge, HasEdge-among}

-- ---- the graph without a set

-- no edge leads to an object of the set
abbrev pub without : Graph → List Bool → Graph
without graph set =
    record { count = graph.count; start = graph.start; Edge = λ from to. Outside set (graph.Edge from) to }

module _ (graph : Graph) (set : List Bool) where
  -- a path of that graph is one of the graph
  Leads-with : (from : ℕ) (path : List ℕ) (goal : ℕ) → Leads (without graph set) from path goal → Leads graph from path goal
  Leads-with from [] goal leads = leads
  Leads-with from (next ∷ path) goal leads = (leads.0.0, Leads-with next path goal leads.1)

  -- that avoids the set
  Leads-avoids : (from : ℕ) (path : List ℕ) (goal : ℕ) → Leads (without graph set) from path goal
      → All (λ object. is_marked set object ≡ false) path
  Leads-avoids from [] goal leads k d lt = absurd (omega arith)
  Leads-avoids from (next ∷ path) goal leads zero d lt = leads.0.1
  Leads-avoids from (next ∷ path) goal leads (suc k) d lt = Leads-avoids next path goal leads.1 k d (omega arith)

  -- and each such path is one of that graph
  Leads-without : (from : ℕ) (path : List ℕ) (goal : ℕ) → Leads graph from path goal
      → All (λ object. is_marked set object ≡ false) path → Leads (without graph set) from path goal
  Leads-without from [] goal leads avoids = leads
  Leads-without from (next ∷ path) goal leads avoids = (
    (leads.0, avoids zero zero (omega arith)),
    Leads-without next path goal leads.1 (λ k d lt. avoids (suc k) d (omega arith)),
  )

  -- so what is reachable in it is reachable without the set, if the start is not in the set
  pub MarksReachableWithout-from : (marks : List Bool) → is_marked set graph.start ≡ false
      → MarksReachable (without graph set) marks → MarksReachableWithout graph set marks
  MarksReachableWithout-from marks out reached =
      record {
        sized = reached.sized;
        sound = λ index marked.
            let found = reached.sound index marked in
            record {
              path = found.path;
              leads = Leads-with graph.start found.path index found.leads;
              start_avoids = out;
              avoids = Leads-avoids graph.start found.path index found.leads;
            };
        complete = λ index found.
            reached.complete index
            (record { path = found.path; leads = Leads-without graph.start found.path index found.leads found.avoids });
      }

  -- if the start is in the set, nothing is reachable without it
  pub MarksReachableWithout-none : (marks : List Bool) → is_marked set graph.start ≡ true → MarksListed graph.count [] marks
      → MarksReachableWithout graph set marks
  MarksReachableWithout-none marks has none =
      record {
        sized = none.sized;
        sound = λ index marked. absurd (omega (arith, (none.sound index marked).1));
        complete = λ index found. absurd (true≢false (sym has ∙ found.start_avoids));
      }

-- an empty set takes nothing away
pub IsReachability-without_none : (memory : Memory) (weak : Weak) (marks : List Bool)
    → IsReachabilityWithout memory weak [] marks → IsReachability memory weak marks
IsReachability-without_none memory weak marks reach =
    record {
      start = reach.start;
      is_special = reach.is_special;
      reached = record {
        sized = reach.reached.sized;
        sound = λ index marked.
            let found = reach.reached.sound index marked in record { path = found.path; leads = found.leads };
        complete = λ index found.
            reach.reached.complete index
            (record { path = found.path; leads = found.leads; start_avoids = refl; avoids = λ k d lt. refl });
      };
    }

-- ---- the targets of slots

module _ (avoided : List Bool) (edges : OutEdges) (old marks new : List Bool) (queue worklist longer : List ℕ) where
  -- the targets of the slots before are marked, and then that of the next slot
  pub MarksTargets-next_slot : (slots : List Slot) (slot : Slot)
      → MarksTargets (Outside avoided (IsTargetAmong edges slots)) old queue marks worklist
      → MarksTargets (Outside avoided (λ index. edge_target edges slot ≡ Some index)) marks worklist new longer
      → MarksTargets (Outside avoided (IsTargetAmong edges (slots ++ slot ∷ []))) old queue new longer
  MarksTargets-next_slot slots slot =
      MarksTargets-then (Outside avoided (IsTargetAmong edges slots)) (Outside avoided (λ index. edge_target edges slot ≡ Some index))
      (Outside avoided (IsTargetAmong edges (slots ++ slot ∷ [])))
      (λ index target.
      elim (IsTargetAmong-next edges slots slot index target.0) [
        | inl before ↦ inl (before, target.1)
        | inr last ↦ inr (last, target.1)
      ])
      (λ index target. (IsTargetAmong-before edges slots slot index target.0, target.1))
      (λ index target. (IsTargetAmong-last edges slots slot index target.0, target.1))
      old marks new queue worklist longer

-- the targets of all strong slots are those of the edges
pub MarksTargets-edges : (avoided : List Bool) (memory : Memory) (weak : Weak) (object : ℕ) (edges : OutEdges)
    → edges ≡ out_edges memory weak object → object < object_count memory → (old new : List Bool) (queue longer : List ℕ)
    → MarksTargets (Outside avoided (IsTargetAmong edges (strong_slots edges))) old queue new longer
    → MarksTargets (Outside avoided (HasEdge memory weak object)) old queue new longer
MarksTargets-edges avoided memory weak object edges its inside old new queue longer step =
    record {
      sized = step.sized;
      keeps = step.keeps;
      targets = λ index edge.
          step.targets index
          (IsTargetAmong-edge memory weak object edges its (strong_slots edges) refl index edge.0, edge.1);
      only = λ index marked. elim (step.only index marked) [
        | inl before ↦ inl before
        | inr ((target, out), there) ↦
            inr ((HasEdge-among memory weak object edges its (strong_slots edges) index inside target, out), there)
      ];
      queued = step.queued;
      added = step.added;
      measure = step.measure;
    }

-- ---- marks by a list

-- an empty list marks nothing
pub MarksListed-none : (count : ℕ) → MarksListed count [] (marks_of (replicate count White))
MarksListed-none count =
    record {
      sized = ap length (marks_of-replicate count) ∙ length-replicate count false;
      sound = λ index marked. absurd (none_marked count index (ap (λ marks. is_marked marks index) (sym (marks_of-replicate count)) ∙ marked));
      complete = λ index lt none. absurd (omega (arith, none.1));
    }
  where
    none_marked : (count index : ℕ) → is_marked (replicate count false) index ≡ true → ⊥
    none_marked zero index marked = true≢false (sym marked)
    none_marked (suc count) zero marked = true≢false (sym marked)
    none_marked (suc count) (suc index) marked = none_marked count index marked

module _ (count : ℕ) (objects : List ℕ) (shades : List Shade) (object : ℕ)
    (listed : MarksListed count objects (marks_of shades)) where
  abbrev marks : List Bool
  marks = marks_of shades

  -- one more object of the list is marked
  pub MarksListed-more : object < length shades → MarksListed count (objects ++ object ∷ []) (marks_of (set shades object Black))
  MarksListed-more lt =
      rw map-set
      (record {
        sized = length-set marks object true ∙ listed.sized;
        sound = λ index marked. elim (is_marked-set marks object index marked) [
          | inl same ↦ subst (Contains (objects ++ object ∷ [])) (sym same) (Contains-push objects object)
          | inr before ↦ Contains-append_left objects (object ∷ []) index (listed.sound index before)
        ];
        complete = λ index inside there. elim (Contains-push_cases objects object index there) [
          | inl before ↦ is_marked-keeps marks object index (listed.complete index inside before)
          | inr same ↦
              subst (λ (i : ℕ). is_marked (set marks object true) i ≡ true) same
              (get_or-set_same marks object true false (omega (arith, lt, length-marks_of shades)))
        ];
      })

  -- an object that is not there changes nothing
  pub MarksListed-past : (object < length shades → ⊥) → MarksListed count (objects ++ object ∷ []) (marks_of shades)
  MarksListed-past past =
      record {
        sized = listed.sized;
        sound = λ index marked. Contains-append_left objects (object ∷ []) index (listed.sound index marked);
        complete = λ index inside there. elim (Contains-push_cases objects object index there) [
          | inl before ↦ listed.complete index inside before
          | inr same ↦ absurd (past (omega (arith, same, inside, listed.sized, length-marks_of shades)))
        ];
      }
