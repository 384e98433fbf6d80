-- The outermost objects of each group: those that no other object of their group dominates. Groups
-- are numbers: `keys` has that of each object.
use Rattle.std.specs.Prelude.{◌≡◌, ◌≢◌, ◌+◌, ◌*◌, ◌<◌, ◌^◌, ◌⊎◌, ◌↔◌, ℕ, Bool, true, false, List, [], ◌∷◌, length, slice_index, All, Contains, Some}
use Rattle.sqz_image.specs.Objects.{object_count, find}
use Rattle.sqz_trace.specs.Graph.{Graph, IsReachable, is_marked}
use Rattle.sqz_trace.specs.Reachability.{graph_from}
use Rattle.sqz_dominators.specs.Children.{AreChildren, retained_bytes}
use Rattle.sqz_dominators.specs.Dominators.{Dominates}
use Rattle.sqz_dominators.specs.Retained.{AreDominators}
use Rattle.sqz_answers.specs.declared.outermost.GroupedTree.{GroupedTree}
use Rattle.sqz_answers.specs.declared.outermost.WalkStep.{WalkStep}
use Rattle.sqz_answers.specs.declared.outermost.WalkStep.TheVariants.{Down, Up}
use Rattle.sqz_answers.specs.TopRows.{retained_objects}

-- the dominators and the children are those of the objects, and each object has a key
pub record IsGroupedTree (grouped : GroupedTree) : Type 0 where
  pub dominators : AreDominators grouped.graph.heap.now grouped.graph.weak grouped.dominators.now
  pub children : AreChildren grouped.dominators.now grouped.children.now
  pub few : object_count grouped.graph.heap.now < 2 ^ 30
  pub small : (object : ℕ) → retained_bytes grouped.dominators.now object < 2 ^ 32
  pub sized : length grouped.keys.now ≡ object_count grouped.graph.heap.now
  pub inside : All (λ key. key < grouped.bound) grouped.keys.now

module _ (graph : Graph) (keys : List ℕ) where
  -- each object with this object's key that dominates it is the object itself
  pub record IsOutermost (object : ℕ) : Type 0 where
    pub reachable : IsReachable graph object
    pub alone : (one : ℕ) → Dominates graph one object → slice_index keys one ≡ slice_index keys object → one ≡ object

  -- another object that dominates it has this key
  pub record IsUnderKey (object key : ℕ) : Type 0 where
    pub one : ℕ
    pub dominates : Dominates graph one object
    pub apart : one ≢ object
    pub has_key : slice_index keys one ≡ key

  -- the marked objects are the outermost ones; any other reachable object is below one of its group
  pub record AreOutermost (marks : List Bool) : Type 0 where
    pub sized : length marks ≡ graph.count
    pub sound : (object : ℕ) → is_marked marks object ≡ true → IsOutermost object
    pub others : (object : ℕ) → IsReachable graph object → is_marked marks object ≡ false
        → IsUnderKey object (slice_index keys object)

  -- ---- while the tree is walked, the next step first

  -- an object has an object of this group above it exactly if the walk has to go up from one later
  pub record IsAfter (object : ℕ) (steps : List WalkStep) : Type 0 where
    pub reachable : IsReachable graph object
    pub each : (key : ℕ) → IsUnderKey object key ↔ Contains steps (Up key)

  -- it goes up from a group once
  abbrev pub AreSteps : ℕ → List WalkStep → Type 0
  AreSteps bound [] = Unit {0}
  AreSteps bound (Down object ∷ steps) = IsAfter object steps × AreSteps bound steps
  AreSteps bound (Up key ∷ steps) = ((key < bound) × (Contains steps (Up key) → ⊥)) × AreSteps bound steps

  -- a step to an object that dominates another is still to come
  pub record IsPending (steps : List WalkStep) (object : ℕ) : Type 0 where
    pub above : ℕ
    pub there : Contains steps (Down above)
    pub dominates : Dominates graph above object

  -- it was found to be outermost, or to be below one of its group
  abbrev pub IsDecided : List Bool → ℕ → Type 0
  IsDecided marks object = (is_marked marks object ≡ true) ⊎ IsUnderKey object (slice_index keys object)

  -- the marks of outermost objects so far, and of the groups from which the walk has to go up
  pub record AreMarked (bound : ℕ) (marks opened : List Bool) (steps : List WalkStep) : Type 0 where
    pub sized : length marks ≡ graph.count
    pub sized_opened : length opened ≡ bound
    pub sound : (object : ℕ) → is_marked marks object ≡ true → IsOutermost object
    pub opened_are : (key : ℕ) → key < bound → (is_marked opened key ≡ true) ↔ Contains steps (Up key)

  pub record IsWalk (bound : ℕ) (marks opened : List Bool) (steps : List WalkStep) : Type 0 where
    pub are : AreMarked bound marks opened steps
    pub steps_are : AreSteps bound steps
    pub all : (object : ℕ) → IsReachable graph object → IsPending steps object ⊎ IsDecided marks object

  -- an object was visited, and the steps to its children are to be added
  pub record IsVisited (bound object : ℕ) (marks opened : List Bool) (steps : List WalkStep) : Type 0 where
    pub reachable : IsReachable graph object
    pub are : AreMarked bound marks opened steps
    pub steps_are : AreSteps bound steps
    pub each : (key : ℕ) → (IsUnderKey object key ⊎ (slice_index keys object ≡ key)) ↔ Contains steps (Up key)
    pub all : (other : ℕ) → IsReachable graph other
        → (Dominates graph object other × (object ≢ other)) ⊎ (IsPending steps other ⊎ IsDecided marks other)

-- the number of moves that steps lead to
abbrev pub moves : GroupedTree → List WalkStep → ℕ
moves grouped [] = 0
moves grouped (Down object ∷ steps) = 2 * retained_objects grouped.dominators.now object + moves grouped steps
moves grouped (Up key ∷ steps) = 1 + moves grouped steps

-- as the functions speak of them
pub record AreOutermostIn (grouped : GroupedTree) (marks : List Bool) : Type 0 where
  pub start : ℕ
  pub is_special : find grouped.graph.heap.now grouped.graph.heap.now.special ≡ Some start
  pub are : AreOutermost (graph_from start grouped.graph.heap.now grouped.graph.weak) grouped.keys.now marks

pub record IsWalkIn (grouped : GroupedTree) (marks opened : List Bool) (steps : List WalkStep) : Type 0 where
  pub start : ℕ
  pub is_special : find grouped.graph.heap.now grouped.graph.heap.now.special ≡ Some start
  pub is : IsWalk (graph_from start grouped.graph.heap.now grouped.graph.weak) grouped.keys.now grouped.bound marks opened steps

pub record IsVisitedIn (grouped : GroupedTree) (object : ℕ) (marks opened : List Bool) (steps : List WalkStep) : Type 0 where
  pub start : ℕ
  pub is_special : find grouped.graph.heap.now grouped.graph.heap.now.special ≡ Some start
  pub is : IsVisited (graph_from start grouped.graph.heap.now grouped.graph.weak) grouped.keys.now grouped.bound object marks opened steps
