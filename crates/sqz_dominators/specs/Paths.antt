-- Shortest paths along strong slots from the special objects array.
use Rattle.std.specs.Prelude.{◌≡◌, ◌<◌, ◌≤◌, ℕ, List, [], ◌∷◌, ◌++◌, length, map, All, Some, slice_index}
use Rattle.sqz_image.specs.declared.slot.Slot.{Slot}
use Rattle.sqz_image.specs.Objects.{Memory, object_count, find}
use Rattle.sqz_trace.specs.declared.weak.Weak.{Weak}
use Rattle.sqz_trace.specs.Edges.{OutEdges, out_edges, strong_slots, edge_target, IsTargetAmong}
use Rattle.sqz_trace.specs.Graph.{Leads, IsReachable}
use Rattle.sqz_trace.specs.Reachability.{graph_from}
use Rattle.sqz_dominators.specs.Search.{IsSearchOf}
use Rattle.sqz_dominators.specs.declared.path.Step.{Step}

-- the first of the strong slots that points to the object; the class word comes before the fields
pub record IsFirstSlotTo (edges : OutEdges) (object : ℕ) (slot : Slot) : Type 0 where
  pub names : edge_target edges slot ≡ Some object
  pub before : List Slot
  pub after : List Slot
  pub slots : strong_slots edges ≡ before ++ slot ∷ after
  pub none : IsTargetAmong edges before object → ⊥

-- from an object on, each step goes along the first slot that points to the object of the step, and
-- the last one is the goal
abbrev pub LeadsBySlots : Memory → Weak → ℕ → List Step → ℕ → Type 0
LeadsBySlots memory weak from [] goal = from ≡ goal
LeadsBySlots memory weak from (step ∷ steps) goal =
    IsFirstSlotTo (out_edges memory weak from) step.object step.slot × LeadsBySlots memory weak step.object steps goal

-- the objects of the steps, in order
abbrev pub objects_on : List Step → List ℕ
objects_on steps = map (λ step. step.object) steps

-- the steps are a path to the object along their slots, and no path to it has fewer steps
pub record IsShortestPath (memory : Memory) (weak : Weak) (object : ℕ) (steps : List Step) : Type 0 where
  pub start : ℕ
  pub is_special : find memory memory.special ≡ Some start
  pub inside : All (λ step. step.object < object_count memory) steps
  pub leads : Leads (graph_from start memory weak) start (objects_on steps) object
  pub by_slots : LeadsBySlots memory weak start steps object
  pub shortest : (path : List ℕ) → Leads (graph_from start memory weak) start path object → length steps ≤ length path

-- no path leads to the object
pub record IsUnreachable (memory : Memory) (weak : Weak) (object : ℕ) : Type 0 where
  pub start : ℕ
  pub is_special : find memory memory.special ≡ Some start
  pub none : IsReachable (graph_from start memory weak) object → ⊥

-- steps lead from the first object that was found to the one at a place, as many as that is deep
pub record IsPathBack (memory : Memory) (weak : Weak) (found places from : List ℕ) (place : ℕ) (steps : List Step) : Type 0 where
  pub leads : LeadsBySlots memory weak (slice_index found 0) steps (slice_index found place)
  pub deep : (law : IsSearchOf memory weak found places from (length found)) → length steps ≡ slice_index law.search.depths place
