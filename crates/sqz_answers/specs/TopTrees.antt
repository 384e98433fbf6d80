-- What the functions that make rows have at hand, and what they do.
use Rattle.std.specs.Prelude.{◌≡◌, ◌-◌, ◌<◌, ◌^◌, ℕ, List, ◌++◌, map}
use Rattle.sqz_image.specs.Objects.{object_count}
use Rattle.sqz_dominators.specs.Children.{AreChildren, children_under, retained_bytes}
use Rattle.sqz_dominators.specs.Retained.{AreDominators}
use Rattle.sqz_answers.specs.declared.levels.Level.{Level}
use Rattle.sqz_answers.specs.declared.rows.Place.{Place}
use Rattle.sqz_answers.specs.declared.rows.TopRow.{TopRow}
use Rattle.sqz_answers.specs.declared.top_tree.TopTree.{TopTree}
use Rattle.sqz_answers.specs.Levels.{held_value, IsLevel}
use Rattle.sqz_answers.specs.TopRows.{AreRowsFrom}

-- the dominators and the children are those of the objects
pub record IsTopTree (top : TopTree) : Type 0 where
  pub dominators : AreDominators top.graph.heap.now top.graph.weak top.dominators.now
  pub children : AreChildren top.dominators.now top.children.now
  pub few : object_count top.graph.heap.now < 2 ^ 30
  pub small : (object : ℕ) → retained_bytes top.dominators.now object < 2 ^ 32

-- the objects whose immediate dominator is this one, in order
abbrev pub children_in : TopTree → ℕ → List ℕ
children_in top object = map (λ child. child.object) (children_under object top.children.now)

-- the level below the row of an object
pub record IsLevelOf (top : TopTree) (object : ℕ) (level : Level) : Type 0 where
  pub value : level.value ≡ held_value top.dominators.now top.parts.now object
  pub is : IsLevel top.graph.heap.now top.dominators.now top.parts.now object level.own level.below.items

-- the rows of an object and below it come after others
pub record AddsRows (top : TopTree) (place : Place) (old new : List TopRow) : Type 0 where
  pub rows : List TopRow
  pub are : AreRowsFrom top.graph.heap.now top.dominators.now top.parts.now top.limits (top.limits.depth - place.depth)
      place.depth place.parent place.object rows
  pub added : new ≡ old ++ rows
