-- Steps along slots, the paths that they are, and how a search leads back to its first object.
-- Serves `path::path_in`, `path::path_back` and `slots_between::slot_between`.
use Rattle.std.proofs.Common.{◌≡◌, ℕ, zero, suc, ◌+◌, ◌<◌, eqb, List, [], ◌∷◌, Option, Some, None, true, false, true≢false, length}
use Rattle.std.proofs.Common.{get_or, sym, ap, subst, ◌∙◌, arith}
use Rattle.std.specs.Prelude.{slice_index, slice_index_or, All}
use Rattle.std.specs.Option.{option_eq}
use Rattle.std.proofs.lemmas.Bool.{eq-eqb, eqb-true}
use Rattle.std.proofs.lemmas.List.{get_or_read}
use Rattle.std.proofs.lemmas.Option.{same_Some}
use Rattle.sqz_image.specs.Objects.{Memory, object_count}
use Rattle.sqz_trace.specs.declared.weak.Weak.{Weak}
use Rattle.sqz_trace.specs.Edges.{HasEdge}
use Rattle.sqz_trace.specs.Graph.{Leads}
use Rattle.sqz_trace.specs.Reachability.{graph_from}
use Rattle.sqz_dominators.proofs.TargetLemmas.{strong_target-lt}
use Rattle.sqz_dominators.specs.declared.path.Step.{Step}
use Rattle.sqz_dominators.specs.Paths.{LeadsBySlots, objects_on, IsPathBack, IsShortestPath, IsUnreachable}
use Rattle.sqz_dominators.specs.Search.{no_place, IsFound, IsLed, IsSearchOf}
use Rattle.sqz_dominators.proofs.SearchLemmas.{no_shorter, no_path}

module _ (memory : Memory) (weak : Weak) where
  -- steps along strong slots are a path of the graph
  pub Leads-by_slots : (start from : ℕ) (steps : List Step) (goal : ℕ) → from < object_count memory
      → LeadsBySlots memory weak from steps goal → Leads (graph_from start memory weak) from (objects_on steps) goal
  Leads-by_slots start from [] goal inside same = same
  Leads-by_slots start from (step ∷ steps) goal inside by_slots = (
    record { inside = inside; slot = step.slot; names = by_slots.0.names },
    Leads-by_slots start step.object steps goal (strong_target-lt memory weak from step.slot step.object by_slots.0.names) by_slots.1,
  )

  -- what steps come to are objects
  pub steps-inside : (from : ℕ) (steps : List Step) (goal : ℕ) → LeadsBySlots memory weak from steps goal
      → All (λ step. step.object < object_count memory) steps
  steps-inside from [] goal same k d lt = absurd (omega arith)
  steps-inside from (step ∷ steps) goal by_slots zero d lt = strong_target-lt memory weak from step.slot step.object by_slots.0.names
  steps-inside from (step ∷ steps) goal by_slots (suc k) d lt = steps-inside step.object steps goal by_slots.1 k d (omega arith)

-- ---- a look-up that is compared with an object

-- where `==` says that they are one, it is found
pub is_the_one : (found : Option ℕ) (to : ℕ) → option_eq eqb found (Some to) ≡ true → found ≡ Some to
is_the_one None to is = absurd (true≢false (sym is))
is_the_one (Some index) to is = ap (λ (i : ℕ). Some i) (eqb-true index to is)

-- and where it says that they are not, it is not
pub is_another : (found : Option ℕ) (to : ℕ) → option_eq eqb found (Some to) ≡ false → found ≡ Some to → ⊥
is_another None to isnt same = cc
is_another (Some index) to isnt same = true≢false (sym (eq-eqb index to (same_Some index to same)) ∙ isnt)

-- ---- back from an object that was found

-- what a search tells of the object at a place, and of the place before, from which it was led to
pub record IsReadBack (memory : Memory) (weak : Weak) (found places from : List ℕ) (place object before : ℕ) : Type 0 where
  pub law : IsSearchOf memory weak found places from (length found)
  pub here : place < length found
  pub some : 0 < place
  pub object_is : object ≡ get_or found place object
  pub before_is : before ≡ get_or from place before

module _ (memory : Memory) (weak : Weak) (found places from : List ℕ) (place object before : ℕ)
    (read : IsReadBack memory weak found places from place object before) where
  led : IsLed (graph_from read.law.start memory weak) found from read.law.search.depths place
  led = read.law.search.led place read.some read.here

  -- the object stands there
  pub found-is : object ≡ slice_index found place
  found-is = get_or_read found place object read.here read.object_is 0

  is_before : before ≡ slice_index from place
  is_before = get_or_read from place before (omega (arith, read.here, read.law.search.linked)) read.before_is 0

  -- the one that led to it stands before it
  pub before-earlier : before < place
  before-earlier = omega (arith, is_before, led.earlier)

  -- has an edge to it
  pub before-edge : HasEdge memory weak (slice_index found before) object
  before-edge = rw (is_before, found-is) led.edge

  -- and is less deep by one
  pub before-deep : slice_index read.law.search.depths place ≡ slice_index read.law.search.depths before + 1
  before-deep = led.deeper ∙ ap (λ (i : ℕ). slice_index read.law.search.depths i + 1) (sym is_before)

  -- an object that is read there is the one that stands there
  pub before-is : (other : ℕ) → other ≡ get_or found before other → other ≡ slice_index found before
  before-is other is =
      let earlier = before-earlier in
      get_or_read found before other (omega (arith, read.here)) is 0

-- ---- the path to an object that was found

module _ (memory : Memory) (weak : Weak) (found places from : List ℕ) (law : IsSearchOf memory weak found places from (length found))
    (object place : ℕ) (is : place ≡ slice_index_or places object no_place) where
  module _ (there : IsFound places object) where
    pub place-inside : place < length found
    place-inside = omega (arith, is, law.search.order.found_at object there)

    stands_there : slice_index found place ≡ object
    stands_there = ap (slice_index found) is ∙ law.search.order.is_found object (omega (arith, is, place-inside))

    -- it is a shortest one
    pub IsShortestPath-back : (steps : List Step) → IsPathBack memory weak found places from place steps
        → IsShortestPath memory weak object steps
    IsShortestPath-back steps back =
        let by_slots : LeadsBySlots memory weak law.start steps object =
        subst (λ (i : ℕ). LeadsBySlots memory weak i steps object) law.search.order.start
        (subst (LeadsBySlots memory weak (slice_index found 0) steps) stands_there back.leads)
        in
        record {
          start = law.start;
          is_special = law.is_special;
          inside = steps-inside memory weak law.start steps object by_slots;
          leads = Leads-by_slots memory weak law.start law.start steps object
              (omega (arith, law.search.order.inside 0 law.search.order.some, law.search.order.start)) by_slots;
          by_slots = by_slots;
          shortest = λ path leads.
              let shortest = no_shorter (graph_from law.start memory weak) found places from (length found) law.search (omega arith) object path leads in
              omega (arith, back.deep law, ap (slice_index law.search.depths) is, shortest);
        }

-- an object without a place has none
pub IsUnreachable-unfound : (memory : Memory) (weak : Weak) (found places from : List ℕ)
    → IsSearchOf memory weak found places from (length found) → (object : ℕ) → slice_index_or places object no_place ≡ no_place
    → IsUnreachable memory weak object
IsUnreachable-unfound memory weak found places from law object none =
    record {
      start = law.start;
      is_special = law.is_special;
      none = λ reached.
          no_path (graph_from law.start memory weak) found places from (length found) law.search (omega arith) object none reached.path reached.leads;
    }
