-- Whether paths to some of the objects show that these are the reachable ones, by a test that
-- computes.
-- Serves `dominators::reachable_without_an_object`, `marking::not_yet`,
-- `moved_objects::dead_cycle`, the functions of `questions`, `DominatorTest`, `PathTest`,
-- `RetainedTest`, `RunTest` and `WorkedImages`.
use Rattle.std.proofs.Common.{◌≡◌, ℕ, zero, suc, ◌+◌, ◌<◌, Bool, true, false, ◌&&◌, ◌||◌, eqb, ltb, nat_lt, List, []}
use Rattle.std.proofs.Common.{◌∷◌, length, map, slice_index, slice_index_or, if◌then◌else◌, Option, Some, None, refl}
use Rattle.std.proofs.Common.{sym, ap, subst, ◌∙◌, arith, inl, inr}
use Rattle.std.specs.Option.{is_some, IsSome, option_and_then}
use Rattle.std.specs.List.{list_all}
use Rattle.std.proofs.lemmas.Bool.{eqb-true, ltb-true, and_parts, or_cases}
use Rattle.std.proofs.lemmas.List.{length-map}
use Rattle.sqz_object.specs.Chunk.{fields}
use Rattle.sqz_image.specs.declared.slot.Slot.{Slot}
use Rattle.sqz_image.specs.declared.slot.Slot.TheVariants.{ClassWord, Field}
use Rattle.sqz_image.specs.Objects.{Memory, Object, objects, object_count, chunk_words, find}
use Rattle.sqz_trace.specs.declared.weak.Weak.{Weak}
use Rattle.sqz_trace.specs.Slots.{field_slots}
use Rattle.sqz_trace.specs.Targets.{named_by, named_among}
use Rattle.sqz_trace.specs.Strong.{strong}
use Rattle.sqz_trace.specs.Edges.{HasEdge}
use Rattle.sqz_trace.specs.Graph.{Leads, is_marked}
use Rattle.sqz_trace.specs.Reachability.{graph_from, IsReachability}
use Rattle.sqz_trace.proofs.ReachabilityLemmas.{IsClosed, IsTracing, MarksReachable-from_tracing}

-- ---- slots

-- the class word, whether or not an object has one, and the first `count` fields
abbrev pub possible_slots : ℕ → List Slot
possible_slots count = ClassWord ∷ field_slots 0 count

-- what a test finds of all of these fields it finds of each
module _ (test : Slot → Bool) where
  field_slots_at : (first count index : ℕ) → list_all test (field_slots first count) ≡ true → index < count
      → test (Field (first + index)) ≡ true
  field_slots_at first zero index h lt = absurd (omega arith)
  field_slots_at first (suc count) zero h lt =
      let parts = and_parts (test (Field first)) (list_all test (field_slots (suc first) count)) h in
      let same : first ≡ first + zero = omega arith in
      subst (λ (field : ℕ). test (Field field) ≡ true) same parts.0
  field_slots_at first (suc count) (suc index) h lt =
      let parts = and_parts (test (Field first)) (list_all test (field_slots (suc first) count)) h in
      let same : suc first + index ≡ first + suc index = omega arith in
      let later = field_slots_at (suc first) count index parts.1 (omega arith) in
      subst (λ (field : ℕ). test (Field field) ≡ true) same later

-- ---- edges

-- whether it is this index
abbrev pub is_index : Option ℕ → ℕ → Bool
is_index None index = false
is_index (Some named) index = eqb named index

-- only its own index passes
is_index-true : (named : Option ℕ) (index : ℕ) → is_index named index ≡ true → named ≡ Some index
is_index-true None index h = absurd cc
is_index-true (Some named) index h = ap (λ (n : ℕ). Some n) (eqb-true named index h)

module _ (memory : Memory) (weak : Weak) where
  -- whether one of these slots points to the object, among the first `count` fields
  abbrev pub some_names : ℕ → List ℕ → ℕ → List Slot → Bool
  some_names count chunk to [] = false
  some_names count chunk to (slot ∷ slots) = is_index (named_among memory count chunk slot) to || some_names count chunk to slots

  -- then there is such a slot
  naming_slot : (count : ℕ) (chunk : List ℕ) (to : ℕ) (slots : List Slot) → some_names count chunk to slots ≡ true
      → (slot : Slot) × (named_among memory count chunk slot ≡ Some to)
  naming_slot count chunk to [] h = absurd cc
  naming_slot count chunk to (slot ∷ slots) h =
      elim (or_cases _ _ h) [
        | inl here ↦ (slot, is_index-true (named_among memory count chunk slot) to here)
        | inr later ↦ naming_slot count chunk to slots later
      ]

  -- whether the one object has an edge to the other
  abbrev pub has_edge : ℕ → ℕ → Bool
  has_edge from to =
      let chunk : List ℕ = chunk_words memory from in
      let count : ℕ = strong memory weak chunk in
      ltb from (object_count memory) && some_names count chunk to (possible_slots count)

  -- then it has one
  pub has_edge-true : (from to : ℕ) → has_edge from to ≡ true → HasEdge memory weak from to
  has_edge-true from to h =
      let chunk : List ℕ = chunk_words memory from in
      let count : ℕ = strong memory weak chunk in
      let parts = and_parts (ltb from (object_count memory)) (some_names count chunk to (possible_slots count)) h in
      let found = naming_slot count chunk to (possible_slots count) parts.1 in
      record { inside = ltb-true _ _ parts.0; slot = found.0; names = found.1 }

  -- whether each object of the path has an edge from the one before, and the last is the goal
  abbrev pub leads_to : ℕ → List ℕ → ℕ → Bool
  leads_to from [] goal = eqb from goal
  leads_to from (next ∷ path) goal = has_edge from next && leads_to next path goal

  -- then the path leads there
  pub leads_to-true : (start from : ℕ) (path : List ℕ) (goal : ℕ) → leads_to from path goal ≡ true
      → Leads (graph_from start memory weak) from path goal
  leads_to-true start from [] goal h = eqb-true from goal h
  leads_to-true start from (next ∷ path) goal h =
      let parts = and_parts (has_edge from next) (leads_to next path goal) h in
      (has_edge-true from next parts.0, leads_to-true start next path goal parts.1)

-- ---- no edge leads out of the marked objects, by a test

-- whether the named object passes a test, where one is named
abbrev pub passes_if_named : (ℕ → Bool) → Option ℕ → Bool
passes_if_named passes None = true
passes_if_named passes (Some index) = passes index

module _ (memory : Memory) where
  -- a word that is there only where a test holds names an object only where it holds
  test_of_named : (holds : Bool) (word to : ℕ)
      → option_and_then (named_by memory) (if holds then Some word else None) ≡ Some to → holds ≡ true
  test_of_named true word to names = refl
  test_of_named false word to names = absurd cc

  -- a field that points to an object is among these fields
  field_is_among : (count : ℕ) (chunk : List ℕ) (index to : ℕ) → named_among memory count chunk (Field index) ≡ Some to
      → index < count
  field_is_among count chunk index to names =
      ltb-true _ _ (test_of_named (nat_lt index count) (slice_index (fields chunk) index) to names)

module _ (memory : Memory) (weak : Weak) (passes : ℕ → Bool) where
  -- whether the object that this slot names passes, if it is strong and names one
  abbrev pub is_named_passing : List ℕ → Slot → Bool
  is_named_passing chunk slot = passes_if_named passes (named_among memory (strong memory weak chunk) chunk slot)

  -- whether all objects that this chunk's strong slots name pass
  abbrev pub all_named_pass : List ℕ → Bool
  all_named_pass chunk = list_all (is_named_passing chunk) (possible_slots (strong memory weak chunk))

  -- what some slot names passes, then
  all_named_pass_at : (chunk : List ℕ) (slot : Slot) (to : ℕ) → all_named_pass chunk ≡ true
      → named_among memory (strong memory weak chunk) chunk slot ≡ Some to → passes to ≡ true
  all_named_pass_at chunk ClassWord to h names =
      let test : Slot → Bool = is_named_passing chunk in
      let parts = and_parts (test ClassWord) (list_all test (field_slots 0 (strong memory weak chunk))) h in
      sym (ap (passes_if_named passes) names) ∙ parts.0
  all_named_pass_at chunk (Field index) to h names =
      let test : Slot → Bool = is_named_passing chunk in
      let parts = and_parts (test ClassWord) (list_all test (field_slots 0 (strong memory weak chunk))) h in
      let inside = field_is_among memory (strong memory weak chunk) chunk index to names in
      let same : 0 + index ≡ index = omega arith in
      let passing = field_slots_at test 0 (strong memory weak chunk) index parts.1 inside in
      let named = subst (λ (field : ℕ). test (Field field) ≡ true) same passing in
      sym (ap (passes_if_named passes) names) ∙ named

  -- so does each object to which one has an edge
  pub targets_pass : (from to : ℕ) → all_named_pass (chunk_words memory from) ≡ true → HasEdge memory weak from to → passes to ≡ true
  targets_pass from to h edge = all_named_pass_at (chunk_words memory from) edge.slot to h edge.names

module _ (memory : Memory) (weak : Weak) (passes : ℕ → Bool) where
  -- whether all that the marked ones of these objects name pass; `own` has their marks
  abbrev pub is_closed_from : List Bool → List Object → Bool
  is_closed_from (true ∷ own) (object ∷ objects) = all_named_pass memory weak passes object.chunk && is_closed_from own objects
  is_closed_from (false ∷ own) (object ∷ objects) = is_closed_from own objects
  is_closed_from _ _ = true

  -- each of these objects, then
  is_closed_from_at : (own : List Bool) (objects : List Object) (index : ℕ) (d : Object)
      → is_closed_from own objects ≡ true → slice_index_or own index false ≡ true → index < length objects
      → all_named_pass memory weak passes (slice_index_or objects index d).chunk ≡ true
  is_closed_from_at own [] index d h m lt = absurd (omega arith)
  is_closed_from_at [] (object ∷ objects) index d h m lt = absurd cc
  is_closed_from_at (true ∷ own) (object ∷ objects) zero d h m lt =
      (and_parts (all_named_pass memory weak passes object.chunk) (is_closed_from own objects) h).0
  is_closed_from_at (true ∷ own) (object ∷ objects) (suc index) d h m lt =
      let parts = and_parts (all_named_pass memory weak passes object.chunk) (is_closed_from own objects) h in
      is_closed_from_at own objects index d parts.1 m (omega arith)
  is_closed_from_at (false ∷ own) (object ∷ objects) zero d h m lt = absurd cc
  is_closed_from_at (false ∷ own) (object ∷ objects) (suc index) d h m lt =
      is_closed_from_at own objects index d h m (omega arith)

  -- what a marked object has an edge to passes, then
  pub closed_along : (marks : List Bool) → is_closed_from marks (objects memory) ≡ true → (from to : ℕ)
      → is_marked marks from ≡ true → HasEdge memory weak from to → passes to ≡ true
  closed_along marks h from to m edge =
      let some : Object = record { first = 0; chunk = [] } in
      let all = is_closed_from_at marks (objects memory) from some h m edge.inside in
      targets_pass memory weak passes from to all edge

-- the same of all objects
IsClosed-from_test : (memory : Memory) (weak : Weak) (start : ℕ) (marks : List Bool)
    → is_closed_from memory weak (is_marked marks) marks (objects memory) ≡ true → IsClosed (graph_from start memory weak) marks
IsClosed-from_test memory weak start marks h = record { along = closed_along memory weak (is_marked marks) marks h }

-- ---- a path to each marked object, by a test

-- the marks of the objects that have a path
abbrev pub marks_of : List (Option (List ℕ)) → List Bool
marks_of paths = map is_some paths

module _ (memory : Memory) (weak : Weak) (start : ℕ) where
  -- of a list that has a path for each object that is to be marked: whether those paths lead there; the
  -- first of the list is for the object with this index
  abbrev pub all_lead : ℕ → List (Option (List ℕ)) → Bool
  all_lead index [] = true
  all_lead index (None ∷ paths) = all_lead (suc index) paths
  all_lead index ((Some path) ∷ paths) = leads_to memory weak start path index && all_lead (suc index) paths

  -- a path leads to each of these objects, then
  all_lead_at : (first : ℕ) (paths : List (Option (List ℕ))) (index : ℕ) → all_lead first paths ≡ true
      → is_marked (marks_of paths) index ≡ true
      → (path : List ℕ) × Leads (graph_from start memory weak) start path (first + index)
  all_lead_at first [] index h m = absurd cc
  all_lead_at first (None ∷ paths) zero h m = absurd cc
  all_lead_at first ((Some path) ∷ paths) zero h m =
      let parts = and_parts (leads_to memory weak start path first) (all_lead (suc first) paths) h in
      let same : first ≡ first + zero = omega arith in
      let leads = leads_to-true memory weak start start path first parts.0 in
      (path, subst (Leads (graph_from start memory weak) start path) same leads)
  all_lead_at first (None ∷ paths) (suc index) h m =
      let found = all_lead_at (suc first) paths index h m in
      let same : suc first + index ≡ first + suc index = omega arith in
      (found.0, subst (Leads (graph_from start memory weak) start found.0) same found.1)
  all_lead_at first ((Some path) ∷ paths) (suc index) h m =
      let parts = and_parts (leads_to memory weak start path first) (all_lead (suc first) paths) h in
      let found = all_lead_at (suc first) paths index parts.1 m in
      let same : suc first + index ≡ first + suc index = omega arith in
      (found.0, subst (Leads (graph_from start memory weak) start found.0) same found.1)

-- ---- the whole test

module _ (memory : Memory) (weak : Weak) where
  -- whether the objects that have a path here are the reachable ones, and their paths lead to them
  abbrev pub is_tracing_from : ℕ → List (Option (List ℕ)) → Bool
  is_tracing_from start paths =
      let marks : List Bool = marks_of paths in
      let closed : Bool = is_closed_from memory weak (is_marked marks) marks (objects memory) in
      eqb (length paths) (object_count memory) && (is_marked marks start && (closed && all_lead memory weak start 0 paths))

  abbrev pub is_tracing_from_some : Option ℕ → List (Option (List ℕ)) → Bool
  is_tracing_from_some None paths = false
  is_tracing_from_some (Some start) paths = is_tracing_from start paths

  abbrev pub is_tracing : List (Option (List ℕ)) → Bool
  is_tracing paths = is_tracing_from_some (find memory memory.special) paths

  -- the paths of a list that passes lead to its objects
  pub is_tracing_from-leads : (start : ℕ) (paths : List (Option (List ℕ))) → is_tracing_from start paths ≡ true
      → all_lead memory weak start 0 paths ≡ true
  is_tracing_from-leads start paths h =
      let marks : List Bool = marks_of paths in
      let closed : Bool = is_closed_from memory weak (is_marked marks) marks (objects memory) in
      let lead : Bool = all_lead memory weak start 0 paths in
      let a = and_parts (eqb (length paths) (object_count memory)) (is_marked marks start && (closed && lead)) h in
      let b = and_parts (is_marked marks start) (closed && lead) a.1 in (and_parts closed lead b.1).1

  -- paths that start at this object
  pub is_tracing_from-true : (start : ℕ) (paths : List (Option (List ℕ))) → is_tracing_from start paths ≡ true
      → IsTracing (graph_from start memory weak) (marks_of paths)
  is_tracing_from-true start paths h =
      let marks : List Bool = marks_of paths in
      let closed : Bool = is_closed_from memory weak (is_marked marks) marks (objects memory) in
      let lead : Bool = all_lead memory weak start 0 paths in
      let a = and_parts (eqb (length paths) (object_count memory)) (is_marked marks start && (closed && lead)) h in
      let b = and_parts (is_marked marks start) (closed && lead) a.1 in
      let c = and_parts closed lead b.1 in
      record {
        sized = length-map paths is_some ∙ eqb-true _ _ a.0;
        has_start = b.0;
        closed = IsClosed-from_test memory weak start marks c.0;
        reached = λ index m.
            let found = all_lead_at memory weak start 0 paths index c.1 m in
            let same : 0 + index ≡ index = omega arith in
            record { path = found.0; leads = subst (Leads (graph_from start memory weak) start found.0) same found.1 };
      }

  -- the same of the object at the special address, if there is one
  is_tracing_from_some-true : (special : Option ℕ) (paths : List (Option (List ℕ)))
      → find memory memory.special ≡ special → is_tracing_from_some special paths ≡ true
      → IsReachability memory weak (marks_of paths)
  is_tracing_from_some-true None paths e h = absurd cc
  is_tracing_from_some-true (Some start) paths e h =
      let tracing = is_tracing_from-true start paths h in
      record {
        start = start;
        is_special = e;
        reached = MarksReachable-from_tracing (graph_from start memory weak) (marks_of paths) tracing;
      }

  -- an address that passes has an object
  some_start : (special : Option ℕ) (paths : List (Option (List ℕ))) → is_tracing_from_some special paths ≡ true
      → IsSome special
  some_start None paths h = absurd cc
  some_start (Some start) paths h = refl

  -- the objects that have a path are the reachable ones
  pub is_tracing-true : (paths : List (Option (List ℕ))) → is_tracing paths ≡ true
      → IsReachability memory weak (marks_of paths)
  is_tracing-true paths h = is_tracing_from_some-true (find memory memory.special) paths refl h

  -- and there is an object at the special address
  pub is_tracing-special : (paths : List (Option (List ℕ))) → is_tracing paths ≡ true
      → IsSome (find memory memory.special)
  is_tracing-special paths h = some_start (find memory memory.special) paths h
