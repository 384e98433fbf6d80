-- The shades of objects: how far marking has come; and the law that marking keeps, in any order of
-- its steps.
use Rattle.std.specs.Prelude.{◌≡◌, ℕ, Bool, true, false, List, map, length, Some}
use Rattle.std.specs.Prelude.{slice_index_or, slice_set, replicate}
use Rattle.sqz_image.specs.Objects.{Memory, object_count, find}
use Rattle.sqz_trace.specs.declared.shades.Shade.{Shade}
use Rattle.sqz_trace.specs.declared.shades.Shade.TheVariants.{White, Grey, Black}
use Rattle.sqz_trace.specs.declared.weak.Weak.{Weak}
use Rattle.sqz_trace.specs.Graph.{Graph, IsReachable, is_marked}
use Rattle.sqz_trace.specs.Reachability.{graph_from}

-- the shade of an object
abbrev pub shade_at : List Shade → ℕ → Shade
shade_at shades index = slice_index_or shades index White

-- an object is marked if it is not white
abbrev pub has_mark : Shade → Bool
has_mark White = false
has_mark Grey = true
has_mark Black = true

abbrev pub marks_of : List Shade → List Bool
marks_of shades = map has_mark shades

-- the start is not white, each object that is not white is reachable, and no black object has an
-- edge to a white one (the tri-colour invariant)
pub record AreLawful (graph : Graph) (shades : List Shade) : Type 0 where
  pub sized : length shades ≡ graph.count
  pub has_start : is_marked (marks_of shades) graph.start ≡ true
  pub sound : (index : ℕ) → is_marked (marks_of shades) index ≡ true → IsReachable graph index
  pub along : (from to : ℕ) → shade_at shades from ≡ Black → graph.Edge from to → is_marked (marks_of shades) to ≡ true

-- lawful shades of the objects of a memory; the special objects array is the start
pub record AreLawfulOf (memory : Memory) (weak : Weak) (shades : List Shade) : Type 0 where
  pub start : ℕ
  pub is_special : find memory memory.special ≡ Some start
  pub lawful : AreLawful (graph_from start memory weak) shades

-- the special objects array is grey, and every other object white
pub record AreFirst (memory : Memory) (shades : List Shade) : Type 0 where
  pub start : ℕ
  pub is_special : find memory memory.special ≡ Some start
  pub are : shades ≡ slice_set (replicate (object_count memory) White) start Grey
