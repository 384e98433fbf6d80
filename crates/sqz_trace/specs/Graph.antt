-- Reachability in a graph: paths along its edges, and marks on the objects that they lead to.
use Rattle.std.specs.Prelude.{◌≡◌, ℕ, Bool, true, false, List, [], ◌∷◌, length, slice_index_or}

-- a graph of `count` numbered objects, with edges between some of them, and the object at which
-- all paths start
pub record Graph : Type 1 where
  pub count : ℕ
  pub start : ℕ
  pub Edge : ℕ → ℕ → Type 0

-- the objects of a path after its first one: each has an edge from the one before, and the last is
-- the goal
abbrev pub Leads : Graph → ℕ → List ℕ → ℕ → Type 0
Leads graph from [] goal = from ≡ goal
Leads graph from (next ∷ path) goal = graph.Edge from next × Leads graph next path goal

-- a path from the start leads there
pub record IsReachable (graph : Graph) (index : ℕ) : Type 0 where
  pub path : List ℕ
  pub leads : Leads graph graph.start path index

-- whether an object is marked, by one mark per object
abbrev pub is_marked : List Bool → ℕ → Bool
is_marked marks index = slice_index_or marks index false

-- the marked objects are the reachable ones
pub record MarksReachable (graph : Graph) (marks : List Bool) : Type 0 where
  pub sized : length marks ≡ graph.count
  pub sound : (index : ℕ) → is_marked marks index ≡ true → IsReachable graph index
  pub complete : (index : ℕ) → IsReachable graph index → is_marked marks index ≡ true
