-- The rows of a dominator tree.
use Rattle.std.specs.Prelude.{◌≡◌, ◌+◌, ◌<◌, ◌==◌, ℕ, zero, suc, Bool, not, nat_le, nat_lt, List, [], ◌∷◌, ◌++◌, length, sum_by}
use Rattle.std.specs.Prelude.{slice_index_or, Option, Some, None, IfSome}
use Rattle.std.specs.List.{filter, take_while}
use Rattle.sqz_image.specs.Objects.{Memory}
use Rattle.sqz_trace.specs.declared.weak.Weak.{Weak}
use Rattle.sqz_trace.specs.Graph.{IsReachable}
use Rattle.sqz_trace.specs.Reachability.{graph_from}
use Rattle.sqz_dominators.specs.Children.{retained_bytes}
use Rattle.sqz_dominators.specs.Retained.{DominatorTree, AreDominators, nothing}
use Rattle.sqz_answers.specs.declared.limits.TopLimits.{TopLimits}
use Rattle.sqz_answers.specs.declared.rows.TopObjects.{TopObjects}
use Rattle.sqz_answers.specs.declared.rows.TopObjects.TheVariants.{One, Smaller}
use Rattle.sqz_answers.specs.declared.rows.TopRow.{TopRow}
use Rattle.sqz_answers.specs.Variables.{Variables}
use Rattle.sqz_answers.specs.Levels.{held_value, IsLevel}

-- the number of objects that an object retains
abbrev pub retained_objects : DominatorTree → ℕ → ℕ
retained_objects tree object = (slice_index_or tree.retained object nothing).objects

-- whether an object on a level has a row of its own
abbrev pub is_shown : DominatorTree → TopLimits → ℕ → Bool
is_shown tree limits object = nat_le limits.bytes (retained_bytes tree object)

abbrev pub is_smaller : DominatorTree → TopLimits → ℕ → Bool
is_smaller tree limits object = not (is_shown tree limits object)

-- the row of an object: `own` bytes are those of its parts, and `apart` those that no row below it
-- retains
abbrev pub object_row : DominatorTree → Variables → (depth : ℕ) (parent : Option ℕ) (object own apart : ℕ) → TopRow
object_row tree variables depth parent object own apart = record {
  what = One object (held_value tree variables object);
  depth = depth;
  parent = parent;
  own = own;
  apart = apart;
  retained = retained_bytes tree object;
  objects = retained_objects tree object;
}

-- the row of the smaller objects on a level together, if there are any
abbrev pub smaller_rows : DominatorTree → (depth parent : ℕ) (smaller : List ℕ) → List TopRow
smaller_rows tree depth parent [] = []
smaller_rows tree depth parent (first ∷ others) = record {
  what = Smaller (length (first ∷ others));
  depth = depth;
  parent = Some parent;
  own = sum_by (retained_bytes tree) (first ∷ others);
  apart = sum_by (retained_bytes tree) (first ∷ others);
  retained = sum_by (retained_bytes tree) (first ∷ others);
  objects = sum_by (retained_objects tree) (first ∷ others);
} ∷ []

-- the rows of objects, one after the other: those of each, by `Rows`
pub data AreRowsOf (Rows : ℕ → List TopRow → Type 0) : List ℕ → List TopRow → Type 0 where
  none : AreRowsOf Rows [] []
  more : (objects : List ℕ) (rows : List TopRow) (object : ℕ) (last : List TopRow) → AreRowsOf Rows objects rows → Rows object last
      → AreRowsOf Rows (objects ++ object ∷ []) (rows ++ last)

module _ (memory : Memory) (tree : DominatorTree) (variables : Variables) (limits : TopLimits) where
  -- a row with none below it: all that it retains is apart
  pub record IsDeepest (depth : ℕ) (parent : Option ℕ) (object : ℕ) (rows : List TopRow) : Type 0 where
    pub own : ℕ
    pub below : List ℕ
    pub level : IsLevel memory tree variables object own below
    pub are : rows ≡ object_row tree variables depth parent object own (retained_bytes tree object) ∷ []

  -- a row with the rows below it: those of objects that retain enough bytes, and that of the others
  pub record IsInner (Rows : ℕ → List TopRow → Type 0) (depth : ℕ) (parent : Option ℕ) (object : ℕ) (rows : List TopRow) : Type 0 where
    pub own : ℕ
    pub below : List ℕ
    pub level : IsLevel memory tree variables object own below
    pub shown : List TopRow
    pub are_shown : AreRowsOf Rows (filter (is_shown tree limits) below) shown
    pub are : rows ≡ object_row tree variables depth parent object own own
        ∷ (shown ++ smaller_rows tree (depth + 1) object (filter (is_smaller tree limits) below))

  -- the row of an object, with this number of levels below it
  abbrev pub AreRowsFrom : (levels depth : ℕ) (parent : Option ℕ) (object : ℕ) (rows : List TopRow) → Type 0
  AreRowsFrom zero depth parent object rows = IsDeepest depth parent object rows
  AreRowsFrom (suc levels) depth parent object rows =
      IsInner (λ child below. AreRowsFrom levels (depth + 1) (Some object) child below) depth parent object rows

-- the rows of the dominator tree, from that of a live object
pub record AreTopRows (memory : Memory) (weak : Weak) (variables : Variables) (limits : TopLimits) (rows : List TopRow) : Type 0 where
  pub tree : DominatorTree
  pub dominators : AreDominators memory weak tree
  pub reached : IsReachable (graph_from dominators.start memory weak) limits.root
  pub are : AreRowsFrom memory tree variables limits limits.depth 0 None limits.root rows

-- ---- rows below a row

-- the rows directly below a row of this depth, among the rows after it: those that are one deeper,
-- up to the next row that is not deeper than it
abbrev pub rows_below : (depth : ℕ) (after : List TopRow) → List TopRow
rows_below depth after = filter (λ row. row.depth == depth + 1) (take_while (λ row. nat_lt depth row.depth) after)

-- ---- the objects of rows

-- the objects that are named are below a number
abbrev pub AreNamedBelow : ℕ → TopObjects → Type 0
AreNamedBelow count (One object value) = (object < count) × IfSome value (λ value. value < count)
AreNamedBelow count (Smaller number) = Unit {0}

abbrev pub IsRowInside : ℕ → TopRow → Type 0
IsRowInside count row = AreNamedBelow count row.what × IfSome row.parent (λ parent. parent < count)
