-- The groups of the objects that have no rows of their own.
use Rattle.std.specs.Prelude.{◌≡◌, ◌<◌, ℕ, List, [], length, slice_index_or, Option, Some, None}
use Rattle.std.specs.List.{filter}
use Rattle.std.specs.Global.{Vec}
use Rattle.sqz_image.specs.Objects.{Memory}
use Rattle.sqz_trace.specs.declared.weak.Weak.{Weak}
use Rattle.sqz_dominators.specs.Retained.{DominatorTree}
use Rattle.sqz_answers.specs.declared.group_counts.GroupCount.{GroupCount}
use Rattle.sqz_answers.specs.declared.limits.TopLimits.{TopLimits}
use Rattle.sqz_answers.specs.declared.rows.TopObjects.{TopObjects}
use Rattle.sqz_answers.specs.declared.rows.TopObjects.TheVariants.{One, Smaller}
use Rattle.sqz_answers.specs.declared.rows.TopRow.{TopRow}
use Rattle.sqz_answers.specs.GroupCounts.{AreGroupCounts}
use Rattle.sqz_answers.specs.Levels.{IsLevel}
use Rattle.sqz_answers.specs.TopRows.{is_smaller}
use Rattle.sqz_answers.specs.Variables.{Variables}

-- the object on whose level below these smaller objects are, given that of the row above them
abbrev pub smaller_under : TopObjects → Option ℕ → Option ℕ
smaller_under (One object value) above = None
smaller_under (Smaller count) above = above

abbrev pub above_smaller : TopRow → Option ℕ
above_smaller row = smaller_under row.what row.parent

module _ (memory : Memory) (weak : Weak) (tree : DominatorTree) (variables : Variables) (limits : TopLimits) where
  -- the groups of the smaller objects on the level below the row of an object
  pub record AreGroupsBelow (object : ℕ) (counts : List GroupCount) : Type 0 where
    pub own : ℕ
    pub below : List ℕ
    pub level : IsLevel memory tree variables object own below
    pub are : AreGroupCounts memory weak (filter (is_smaller tree limits) below) counts

  -- these groups for an object, if there is one
  abbrev pub AreGroupsAt : Option ℕ → List GroupCount → Type 0
  AreGroupsAt None counts = counts ≡ []
  AreGroupsAt (Some object) counts = AreGroupsBelow object counts

  -- for each row the groups of the smaller objects that it stands for; none for a row of one object
  pub record AreGroupsOfRows (rows : List TopRow) (groups : List (Vec GroupCount)) : Type 0 where
    pub sized : length groups ≡ length rows
    pub each : (i : ℕ) (row : TopRow) (none : Vec GroupCount) → i < length rows
        → AreGroupsAt (above_smaller (slice_index_or rows i row)) (slice_index_or groups i none).items
