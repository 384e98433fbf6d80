-- What the objects of a group retain together: each object that one of them dominates counts once.
use Rattle.std.specs.Prelude.{◌≡◌, ◌<◌, ℕ, Bool, true, List, length, slice_index, Some}
use Rattle.sqz_image.specs.Objects.{Memory, object_count, chunk_words, find}
use Rattle.sqz_trace.specs.declared.weak.Weak.{Weak}
use Rattle.sqz_trace.specs.Dead.{bytes_in}
use Rattle.sqz_trace.specs.Graph.{Graph, is_marked}
use Rattle.sqz_trace.specs.Live.{live}
use Rattle.sqz_trace.specs.Reachability.{graph_from}
use Rattle.sqz_histogram.specs.declared.group.Group.{Group}
use Rattle.sqz_histogram.specs.Groups.{IsInside, group_of}
use Rattle.sqz_histogram.specs.Keys.{key_of, key_count}
use Rattle.sqz_dominators.specs.Dominators.{Dominates}
use Rattle.sqz_answers.specs.declared.outermost.GroupedTree.{GroupedTree}

-- the marked objects are those that a member dominates
pub record MarksDominatedByOne (graph : Graph) (IsMember : ℕ → Type 0) (marks : List Bool) : Type 0 where
  pub sized : length marks ≡ graph.count
  pub sound : (other : ℕ) → is_marked marks other ≡ true → (one : ℕ) × IsMember one × Dominates graph one other
  pub complete : (one other : ℕ) → IsMember one → Dominates graph one other → is_marked marks other ≡ true

-- the bytes of the live objects that a member dominates
pub record AreDominatedBytes (memory : Memory) (weak : Weak) (IsMember : ℕ → Type 0) (bytes : ℕ) : Type 0 where
  pub start : ℕ
  pub is_special : find memory memory.special ≡ Some start
  pub marks : List Bool
  pub dominated : MarksDominatedByOne (graph_from start memory weak) IsMember marks
  pub bytes_are : bytes ≡ bytes_in (live memory marks)

-- the bytes that the objects of a group retain
abbrev pub AreRetainedByGroup : Memory → Weak → Group → ℕ → Type 0
AreRetainedByGroup memory weak group =
    AreDominatedBytes memory weak (λ one. group_of memory weak (chunk_words memory one) ≡ group)

-- for each key the bytes that the objects with it retain
pub record AreRetainedByKeys (grouped : GroupedTree) (sums : List ℕ) : Type 0 where
  pub sized : length sums ≡ grouped.bound
  pub each : (key : ℕ) → key < grouped.bound
      → AreDominatedBytes grouped.graph.heap.now grouped.graph.weak (λ one. slice_index grouped.keys.now one ≡ key) (slice_index sums key)

-- the key of each object's group
pub record AreGroupKeys (memory : Memory) (weak : Weak) (keys : List ℕ) : Type 0 where
  pub sized : length keys ≡ object_count memory
  pub each : (object : ℕ) → object < object_count memory
      → slice_index keys object ≡ key_of (object_count memory) (group_of memory weak (chunk_words memory object))

-- by key, the bytes that the objects of a group retain
pub record AreRetainedByGroups (memory : Memory) (weak : Weak) (sums : List ℕ) : Type 0 where
  pub sized : length sums ≡ key_count memory
  pub each : (group : Group) → IsInside (object_count memory) group
      → AreRetainedByGroup memory weak group (slice_index sums (key_of (object_count memory) group))
