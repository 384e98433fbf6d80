-- Whether objects have these immediate dominators, by a test that computes.
-- Serves the functions of `dominators`, and `RetainedTest`.
use Rattle.std.proofs.Common.{◌≡◌, ◌⊎◌, ℕ, zero, suc, ◌+◌, ◌<◌, Bool, true, false, ◌&&◌, ◌||◌, not, eqb, List, [], ◌∷◌, ◌++◌, length}
use Rattle.std.proofs.Common.{map, slice_index_or, Option, Some, None, true≢false, refl, sym, ap, subst, ◌∙◌, arith, inl, inr}
use Rattle.std.specs.Prelude.{Contains}
use Rattle.std.specs.List.{list_all}
use Rattle.std.specs.Option.{option_map}
use Rattle.std.proofs.lemmas.Bool.{and_parts, or_cases, eqb-true, eqb-false, not-true, cases_eq}
use Rattle.std.proofs.lemmas.List.{length-map}
use Rattle.std.proofs.lemmas.List.Elements.{All-contains}
use Rattle.std.proofs.lemmas.List.Elements.{Contains-append_cases}
use Rattle.std.proofs.lemmas.List.Sums.{AllPass-from_list_all}
use Rattle.std.proofs.lemmas.Option.{same_Some}
use Rattle.sqz_image.specs.Objects.{Memory, objects, object_count}
use Rattle.sqz_trace.specs.declared.weak.Weak.{Weak}
use Rattle.sqz_trace.specs.Graph.{Graph, Leads, IsReachable, is_marked, MarksReachable}
use Rattle.sqz_trace.specs.Reachability.{graph_from}
use Rattle.sqz_trace.proofs.CopyLemmas.{marked_inside}
use Rattle.sqz_trace.proofs.ReachabilityLemmas.{MarksReachable-from_tracing}
use Rattle.sqz_dominators.specs.Dominators.{Dominates, IsImmediate, AreImmediate}
use Rattle.sqz_dominators.proofs.BasicLemmas.{Contains-first, Contains-later, Contains-cases}
use Rattle.sqz_dominators.proofs.DominatorLawLemmas.{Leads-then}
use Rattle.sqz_dominators.proofs.DominatorLemmas.{Dominates-start}
use Rattle.sqz_test_examples.proofs.TracingTest.{marks_of, leads_to, leads_to-true, is_closed_from, closed_along}
use Rattle.sqz_test_examples.proofs.TracingTest.{is_tracing_from, is_tracing_from-true}

-- ---- lists

-- each element passes a test that all pass
passes_at : (test : ℕ → Bool) (xs : List ℕ) (x : ℕ) → list_all test xs ≡ true → Contains xs x → test x ≡ true
passes_at test xs x h there = All-contains (λ y. test y ≡ true) xs x (AllPass-from_list_all test xs h) there

-- whether no number but this one is in both lists
abbrev pub meet_only_at : ℕ → List ℕ → List ℕ → Bool
meet_only_at last xs ys = list_all (λ x. list_all (λ y. eqb x last || not (eqb x y)) ys) xs

meeting : (last : ℕ) (xs ys : List ℕ) (x : ℕ) → meet_only_at last xs ys ≡ true → Contains xs x → Contains ys x → x ≡ last
meeting last xs ys x h first second =
    let one = passes_at (λ x. list_all (λ y. eqb x last || not (eqb x y)) ys) xs x h first in
    let both = passes_at (λ y. eqb x last || not (eqb x y)) ys x one second in
    elim (or_cases (eqb x last) (not (eqb x x)) both) [
      | inl same ↦ eqb-true x last same
      | inr other ↦ absurd (eqb-false x x (not-true (eqb x x) other) refl)
    ]

-- ---- two objects do not dominate each other

module _ (graph : Graph) where
  -- a shorter path leads to an object on a path that is not its goal
  shorter : (from : ℕ) (path : List ℕ) (goal x : ℕ) → Leads graph from path goal → Contains (from ∷ path) x → (x ≡ goal → ⊥)
      → (part : List ℕ) × (Leads graph from part x × (length part < length path))
  shorter from [] goal x leads there apart =
      elim (Contains-cases from [] x there) [
        | inl same ↦ absurd (apart (sym same ∙ leads))
        | inr none ↦ absurd (omega (arith, none.1))
      ]
  shorter from (next ∷ path) goal x leads there apart =
      elim (Contains-cases from (next ∷ path) x there) [
        | inl same ↦ ([], (same, omega arith))
        | inr later ↦
            let found = shorter next path goal x leads.1 later apart in (next ∷ found.0, ((leads.0, found.1.0), omega (arith, found.1.1)))
      ]

  -- no path to one of two objects that dominate each other is the shortest
  no_shortest : (one two : ℕ) → Dominates graph one two → Dominates graph two one → (one ≡ two → ⊥) → (bound : ℕ) (path : List ℕ)
      → Leads graph graph.start path one → length path < bound → ⊥
  no_shortest one two first second apart zero path leads lt = absurd (omega (arith, lt))
  no_shortest one two first second apart (suc bound) path leads lt =
      let to_two = shorter graph.start path one two leads (second.on_all path leads) (λ same. apart (sym same)) in
      let to_one = shorter graph.start to_two.0 two one to_two.1.0 (first.on_all to_two.0 to_two.1.0) apart in
      no_shortest one two first second apart bound to_one.0 to_one.1.0 (omega (arith, lt, to_two.1.1, to_one.1.1))

  Dominates-antisym : (one two : ℕ) → Dominates graph one two → Dominates graph two one → one ≡ two
  Dominates-antisym one two first second =
      elim (cases_eq one two) [
        | inl same ↦ same
        | inr apart ↦
            let path = second.reachable.path in
            absurd (no_shortest one two first second apart (suc (length path)) path second.reachable.leads (omega arith))
      ]

  -- an object has one immediate dominator
  IsImmediate-unique : (one two other : ℕ) → IsImmediate graph one other → IsImmediate graph two other → one ≡ two
  IsImmediate-unique one two other first second =
      Dominates-antisym one two (second.nearest one first.dominates first.apart) (first.nearest two second.dominates second.apart)

-- ---- immediate dominators

-- what shows that an object has an immediate dominator: marks of the objects that are reachable
-- without the dominator, and two paths from the dominator to the object
pub record Evidence : Type 0 where
  pub by : ℕ
  pub without : List Bool
  pub one : List ℕ
  pub two : List ℕ

-- the same for an object to which its immediate dominator points
abbrev pub by_edge : ℕ → List Bool → ℕ → Option Evidence
by_edge by without other = Some (record { by = by; without = without; one = other ∷ []; two = other ∷ [] })

-- the immediate dominators that are shown
abbrev pub shown : List (Option Evidence) → List (Option ℕ)
shown evidence = map (option_map (λ (e : Evidence). e.by)) evidence

module _ (memory : Memory) (weak : Weak) (start : ℕ) where
  -- whether it is this object or marked
  abbrev pub is_one_or_marked : ℕ → List Bool → ℕ → Bool
  is_one_or_marked one without index = eqb index one || is_marked without index

  -- whether the marked objects include all that paths without this object lead to
  abbrev pub is_closed_without : ℕ → List Bool → Bool
  is_closed_without one without =
      is_one_or_marked one without start && is_closed_from memory weak (is_one_or_marked one without) without (objects memory)

  -- a path from a marked object contains the one, or leads to a marked object
  pub on_or_marked : (one : ℕ) (without : List Bool)
      → is_closed_from memory weak (is_one_or_marked one without) without (objects memory) ≡ true → (from : ℕ) (path : List ℕ)
      (goal : ℕ) → is_marked without from ≡ true → Leads (graph_from start memory weak) from path goal
      → Contains path one ⊎ (is_marked without goal ≡ true)
  on_or_marked one without h from [] goal m leads = inr (subst (λ (i : ℕ). is_marked without i ≡ true) leads m)
  on_or_marked one without h from (next ∷ path) goal m leads =
      elim (or_cases (eqb next one) (is_marked without next)
      (closed_along memory weak (is_one_or_marked one without) without h from next m leads.0)) [
        | inl same ↦ inl (subst (Contains (next ∷ path)) (eqb-true next one same) (Contains-first next path))
        | inr marked ↦ elim (on_or_marked one without h next path goal marked leads.1) [
          | inl on ↦ inl (Contains-later next path one on)
          | inr goal_is ↦ inr goal_is
        ]
      ]

  pub Dominates-computed : (one other : ℕ) (without : List Bool) → is_closed_without one without ≡ true → is_marked without other ≡ false
      → IsReachable (graph_from start memory weak) other → Dominates (graph_from start memory weak) one other
  Dominates-computed one other without h dead reached =
      let closed : Bool = is_closed_from memory weak (is_one_or_marked one without) without (objects memory) in
      let parts = and_parts (is_one_or_marked one without start) closed h in
      record {
        reachable = reached;
        on_all = λ path leads.
            elim (or_cases (eqb start one) (is_marked without start) parts.0) [
              | inl same ↦ subst (Contains (start ∷ path)) (eqb-true start one same) (Contains-first start path)
              | inr marked ↦ elim (on_or_marked one without parts.1 start path other marked leads) [
                | inl on ↦ Contains-later start path one on
                | inr goal_is ↦ absurd (true≢false (sym goal_is ∙ dead))
              ]
            ];
      }

  -- whether the evidence shows that it is the immediate dominator of the object; both are to be
  -- reachable
  abbrev pub is_shown : ℕ → Evidence → Bool
  is_shown other e =
      not (eqb e.by other)
      && (not (is_marked e.without other)
      && (is_closed_without e.by e.without
      && (leads_to memory weak e.by e.one other && (leads_to memory weak e.by e.two other && meet_only_at other e.one e.two))))

  IsImmediate-computed : (other : ℕ) (e : Evidence) → IsReachable (graph_from start memory weak) e.by
      → IsReachable (graph_from start memory weak) other → is_shown other e ≡ true
      → IsImmediate (graph_from start memory weak) e.by other
  IsImmediate-computed other e by_reached reached h =
      let graph = graph_from start memory weak in
      let leads_one : Bool = leads_to memory weak e.by e.one other in
      let leads_two : Bool = leads_to memory weak e.by e.two other in
      let meet : Bool = meet_only_at other e.one e.two in
      let closed : Bool = is_closed_without e.by e.without in
      let a = and_parts (not (eqb e.by other)) (not (is_marked e.without other) && (closed && (leads_one && (leads_two && meet)))) h in
      let b = and_parts (not (is_marked e.without other)) (closed && (leads_one && (leads_two && meet))) a.1 in
      let c = and_parts closed (leads_one && (leads_two && meet)) b.1 in
      let d = and_parts leads_one (leads_two && meet) c.1 in
      let f = and_parts leads_two meet d.1 in
      let one = leads_to-true memory weak start e.by e.one other d.0 in
      let two = leads_to-true memory weak start e.by e.two other f.0 in
      record {
        dominates = Dominates-computed e.by other e.without c.0 (not-true (is_marked e.without other) b.0) reached;
        apart = eqb-false e.by other (not-true (eqb e.by other) a.0);
        nearest = λ third dominates apart. record {
          reachable = by_reached;
          on_all = λ path leads.
              elim (Contains-append_cases (start ∷ path) e.one third
              (dominates.on_all (path ++ e.one) (Leads-then graph start path e.by e.one other leads one))) [
                | inl on ↦ on
                | inr on_one ↦ elim (Contains-append_cases (start ∷ path) e.two third
                    (dominates.on_all (path ++ e.two) (Leads-then graph start path e.by e.two other leads two))) [
                      | inl on ↦ on
                      | inr on_two ↦ absurd (apart (meeting other e.one e.two third f.1 on_one on_two))
                    ]
              ];
        };
      }

  module _ (marks : List Bool) where
    -- whether an object has no immediate dominator, or evidence shows which it has
    abbrev pub is_answer : ℕ → Option Evidence → Bool
    is_answer other None = eqb start other || not (is_marked marks other)
    is_answer other (Some e) = is_marked marks other && (is_marked marks e.by && is_shown other e)

    -- the same of a list, whose first element is for the object with this index
    abbrev pub are_answers : ℕ → List (Option Evidence) → Bool
    are_answers first [] = true
    are_answers first (answer ∷ answers) = is_answer first answer && are_answers (suc first) answers

    module _ (reached : MarksReachable (graph_from start memory weak) marks) where
      answer-some : (other : ℕ) (e : Evidence) → is_answer other (Some e) ≡ true → IsImmediate (graph_from start memory weak) e.by other
      answer-some other e h =
          let a = and_parts (is_marked marks other) (is_marked marks e.by && is_shown other e) h in
          let b = and_parts (is_marked marks e.by) (is_shown other e) a.1 in
          IsImmediate-computed other e (reached.sound e.by b.0) (reached.sound other a.0) b.1

      answer-none : (other one : ℕ) → is_answer other None ≡ true → IsImmediate (graph_from start memory weak) one other → ⊥
      answer-none other one h immediate =
          let graph = graph_from start memory weak in
          elim (or_cases (eqb start other) (not (is_marked marks other)) h) [
            | inl same ↦
                let of_start = subst (Dominates graph one) (sym (eqb-true start other same)) immediate.dominates in
                immediate.apart (sym (Dominates-start graph one of_start) ∙ eqb-true start other same)
            | inr dead ↦ true≢false (sym (reached.complete other immediate.dominates.reachable) ∙ not-true (is_marked marks other) dead)
          ]

      each_answer : (first : ℕ) (answers : List (Option Evidence)) (index one : ℕ) → are_answers first answers ≡ true
          → slice_index_or (shown answers) index None ≡ Some one → IsImmediate (graph_from start memory weak) one (first + index)
      each_answer first [] index one h is = absurd cc
      each_answer first (None ∷ answers) zero one h is = absurd cc
      each_answer first ((Some e) ∷ answers) zero one h is =
          let graph = graph_from start memory weak in
          let parts = and_parts (is_answer first (Some e)) (are_answers (suc first) answers) h in
          let same : first ≡ first + zero = omega arith in
          let by_is : e.by ≡ one = same_Some e.by one is in
          subst (λ (i : ℕ). IsImmediate graph i (first + zero)) by_is
          (subst (IsImmediate graph e.by) same (answer-some first e parts.0))
      each_answer first (answer ∷ answers) (suc index) one h is =
          let parts = and_parts (is_answer first answer) (are_answers (suc first) answers) h in
          let same : suc first + index ≡ first + suc index = omega arith in
          subst (IsImmediate (graph_from start memory weak) one) same (each_answer (suc first) answers index one parts.1 is)

      all_answers : (first : ℕ) (answers : List (Option Evidence)) (index one : ℕ) → are_answers first answers ≡ true
          → index < length answers → IsImmediate (graph_from start memory weak) one (first + index)
          → slice_index_or (shown answers) index None ≡ Some one
      all_answers first [] index one h lt immediate = absurd (omega (arith, lt))
      all_answers first (None ∷ answers) zero one h lt immediate =
          let parts = and_parts (is_answer first None) (are_answers (suc first) answers) h in
          let same : first + zero ≡ first = omega arith in
          absurd (answer-none first one parts.0 (subst (IsImmediate (graph_from start memory weak) one) same immediate))
      all_answers first ((Some e) ∷ answers) zero one h lt immediate =
          let graph = graph_from start memory weak in
          let parts = and_parts (is_answer first (Some e)) (are_answers (suc first) answers) h in
          let same : first + zero ≡ first = omega arith in
          let its = subst (IsImmediate graph one) same immediate in
          ap (λ (i : ℕ). Some i) (IsImmediate-unique graph e.by one first (answer-some first e parts.0) its)
      all_answers first (answer ∷ answers) (suc index) one h lt immediate =
          let parts = and_parts (is_answer first answer) (are_answers (suc first) answers) h in
          let same : first + suc index ≡ suc first + index = omega arith in
          all_answers (suc first) answers index one parts.1 (omega (arith, lt))
          (subst (IsImmediate (graph_from start memory weak) one) same immediate)

  -- whether these are the answers for all objects
  abbrev pub are_immediate : List (Option (List ℕ)) → List (Option Evidence) → Bool
  are_immediate paths answers =
      is_tracing_from memory weak start paths && (eqb (length answers) (object_count memory) && are_answers (marks_of paths) 0 answers)

  pub AreImmediate-computed : (paths : List (Option (List ℕ))) (answers : List (Option Evidence)) → are_immediate paths answers ≡ true
      → AreImmediate (graph_from start memory weak) (shown answers)
  AreImmediate-computed paths answers h =
      let marks : List Bool = marks_of paths in
      let count : Bool = eqb (length answers) (object_count memory) in
      let a = and_parts (is_tracing_from memory weak start paths) (count && are_answers marks 0 answers) h in
      let b = and_parts count (are_answers marks 0 answers) a.1 in
      let sized = eqb-true (length answers) (object_count memory) b.0 in
      let reached = MarksReachable-from_tracing (graph_from start memory weak) marks (is_tracing_from-true memory weak start paths a.0) in
      record {
        sized = length-map answers (option_map (λ (e : Evidence). e.by)) ∙ sized;
        each = λ other one is.
            let same : 0 + other ≡ other = omega arith in
            subst (IsImmediate (graph_from start memory weak) one) same (each_answer marks reached 0 answers other one b.1 is);
        all = λ other one immediate.
            let same : other ≡ 0 + other = omega arith in
            let inside = marked_inside marks other (reached.complete other immediate.dominates.reachable) in
            all_answers marks reached 0 answers other one b.1 (omega (arith, inside, reached.sized, sized))
            (subst (IsImmediate (graph_from start memory weak) one) same immediate);
      }
