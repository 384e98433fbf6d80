-- Marks that include the start of a graph, are closed under its edges, and have a path to each
-- marked object, are the reachable objects.
-- Serves `CopyLemmas`, `LawLemmas` and `MarkingLemmas`; `EventLemmas` of `sqz_marks`;
-- `RemainingLemmas` of `sqz_workers`; `CopiedLemmas` of `sqz_slide`; `GroupLemmas` of
-- `sqz_histogram`; `AloneLemmas` of `sqz_answers`; `Uniqueness` of `sqz_tool`; `TracingTest` of
-- `sqz_test_examples`.
use Rattle.std.proofs.Common.{◌≡◌, ℕ, Bool, true, false, List, [], ◌∷◌, ◌++◌, length, refl, sym, subst, ◌∙◌}
use Rattle.std.proofs.lemmas.List.{ext_get_or}
use Rattle.std.proofs.lemmas.Option.{same_Some}
use Rattle.sqz_image.specs.Objects.{Memory}
use Rattle.sqz_trace.specs.declared.weak.Weak.{Weak}
use Rattle.sqz_trace.specs.Graph.{Graph, Leads, IsReachable, is_marked, MarksReachable}
use Rattle.sqz_trace.specs.Reachability.{graph_from, IsReachability}

-- where an object is marked, so is each that it has an edge to
pub record IsClosed (graph : Graph) (marks : List Bool) : Type 0 where
  pub along : (from to : ℕ) → is_marked marks from ≡ true → graph.Edge from to → is_marked marks to ≡ true

-- the start is marked, no edge leads out of the marked objects, and a path leads to each
pub record IsTracing (graph : Graph) (marks : List Bool) : Type 0 where
  pub sized : length marks ≡ graph.count
  pub has_start : is_marked marks graph.start ≡ true
  pub closed : IsClosed graph marks
  pub reached : (index : ℕ) → is_marked marks index ≡ true → IsReachable graph index

module _ (graph : Graph) where
  -- where a path begins at a marked object, its goal is marked
  pub marked_at_goal : (marks : List Bool) → IsClosed graph marks → (from : ℕ) (path : List ℕ) (goal : ℕ)
      → is_marked marks from ≡ true → Leads graph from path goal → is_marked marks goal ≡ true
  marked_at_goal marks closed from [] goal m same = subst (λ (index : ℕ). is_marked marks index ≡ true) same m
  marked_at_goal marks closed from (next ∷ path) goal m leads =
      marked_at_goal marks closed next path goal (closed.along from next m leads.0) leads.1

  -- the marks of a tracing are those of the reachable objects
  pub MarksReachable-from_tracing : (marks : List Bool) → IsTracing graph marks → MarksReachable graph marks
  MarksReachable-from_tracing marks t =
      record {
        sized = t.sized;
        sound = t.reached;
        complete = λ index r. marked_at_goal marks t.closed graph.start r.path index t.has_start r.leads;
      }

  -- a path may go one edge further
  pub Leads-more : (from : ℕ) (path : List ℕ) (goal next : ℕ) → Leads graph from path goal → graph.Edge goal next
      → Leads graph from (path ++ next ∷ []) next
  Leads-more from [] goal next leads edge = (subst (λ (i : ℕ). graph.Edge i next) (sym leads) edge, refl)
  Leads-more from (step ∷ path) goal next leads edge = (leads.0, Leads-more step path goal next leads.1 edge)

  -- what a reachable object has an edge to is reachable
  pub IsReachable-next : (index next : ℕ) → IsReachable graph index → graph.Edge index next → IsReachable graph next
  IsReachable-next index next reached edge =
      record {
        path = reached.path ++ next ∷ [];
        leads = Leads-more graph.start reached.path index next reached.leads edge;
      }

  -- no edge leads out of the reachable objects
  pub IsClosed-reachable : (marks : List Bool) → MarksReachable graph marks → IsClosed graph marks
  IsClosed-reachable marks reached =
      record {
        along = λ from to marked edge. reached.complete to (IsReachable-next from to (reached.sound from marked) edge);
      }

pub same_mark : (one other : Bool) → (one ≡ true → other ≡ true) → (other ≡ true → one ≡ true) → one ≡ other
same_mark true other f g = sym (f refl)
same_mark false true f g = g refl
same_mark false false f g = refl

-- the reachable objects have one list of marks
pub MarksReachable-unique : (graph : Graph) (one other : List Bool)
    → MarksReachable graph one → MarksReachable graph other → one ≡ other
MarksReachable-unique graph one other p q =
    ext_get_or false one other (p.sized ∙ sym q.sized)
    (λ index lt.
    same_mark (is_marked one index) (is_marked other index)
    (λ m. q.complete index (p.sound index m)) (λ m. p.complete index (q.sound index m)))

-- there is one reachability of a memory
pub IsReachability-unique : (memory : Memory) (weak : Weak) (one other : List Bool)
    → IsReachability memory weak one → IsReachability memory weak other → one ≡ other
IsReachability-unique memory weak one other p q =
    let same : p.start ≡ q.start = same_Some _ _ (sym p.is_special ∙ q.is_special) in
    MarksReachable-unique (graph_from q.start memory weak) one other
    (subst (λ (start : ℕ). MarksReachable (graph_from start memory weak) one) same p.reached) q.reached
