-- The differences that are not quiet and the quiet ones, by their owners.
use Rattle.std.specs.Prelude.{ℕ, ◌+◌, if◌then◌else◌, List, [], ◌∷◌, slice_index_or}
use Rattle.sqz_changes.specs.declared.change.Change.{Change}
use Rattle.sqz_changes.specs.declared.tallies.Tallies.{Tallies}
use Rattle.sqz_changes.specs.declared.place.Difference.{Difference}
use Rattle.sqz_changes.specs.Changes.{with_difference}
use Rattle.sqz_changes.specs.Compared.{Compared}
use Rattle.sqz_changes.specs.Differences.{differs, is_quiet}
use Rattle.sqz_changes.specs.Tally.{IsTally, counted}

pub record Tallied : Type 0 where
  pub shown : List Change
  pub quiet : List Change

abbrev pub tallied : Tallies → Tallied
tallied tallies = record { shown = tallies.shown.changes.items; quiet = tallies.quiet.changes.items }

abbrev pub none : Tallied
none = record { shown = []; quiet = [] }

-- after one more place of a pair with this owner
abbrev pub with_place_of : Compared → ℕ → Difference → Tallied → Tallied
with_place_of compared owner at tallied =
    if differs compared at
    then (if is_quiet compared at
    then record { shown = tallied.shown; quiet = with_difference owner at tallied.quiet }
    else record { shown = with_difference owner at tallied.shown; quiet = tallied.quiet })
    else tallied

-- after these places of pairs, by the owners of pairs
abbrev pub with_places : Compared → List ℕ → List Difference → Tallied → Tallied
with_places compared owners [] tallied = tallied
with_places compared owners (at ∷ places) tallied =
    with_places compared owners places (with_place_of compared (slice_index_or owners at.pair 0) at tallied)

-- after these places of a pair with this owner
abbrev pub with_places_of : Compared → ℕ → List Difference → Tallied → Tallied
with_places_of compared owner [] tallied = tallied
with_places_of compared owner (at ∷ places) tallied = with_places_of compared owner places (with_place_of compared owner at tallied)

-- both keep the row of each owner
pub record AreTallies (owners : ℕ) (tallies : Tallies) : Type 0 where
  pub shown : IsTally owners tallies.shown.changes.items tallies.shown.rows.items
  pub quiet : IsTally owners tallies.quiet.changes.items tallies.quiet.rows.items

-- the number of differences
abbrev pub counted_in : Tallies → ℕ
counted_in tallies = counted tallies.shown.changes.items + counted tallies.quiet.changes.items
