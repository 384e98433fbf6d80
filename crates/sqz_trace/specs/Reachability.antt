-- The objects of a memory to which a path leads from the special objects array.
use Rattle.std.specs.Prelude.{◌≡◌, ℕ, Bool, List, Some}
use Rattle.sqz_image.specs.Objects.{Memory, object_count, find}
use Rattle.sqz_trace.specs.declared.weak.Weak.{Weak}
use Rattle.sqz_trace.specs.Edges.{HasEdge}
use Rattle.sqz_trace.specs.Graph.{Graph, MarksReachable}

-- the objects and their edges, with paths that start at this object
abbrev pub graph_from : ℕ → Memory → Weak → Graph
graph_from start memory weak =
    record { count = object_count memory; start = start; Edge = HasEdge memory weak }

-- the marked objects are those to which a path leads from the special objects array
pub record IsReachability (memory : Memory) (weak : Weak) (marks : List Bool) : Type 0 where
  pub start : ℕ
  pub is_special : find memory memory.special ≡ Some start
  pub reached : MarksReachable (graph_from start memory weak) marks
