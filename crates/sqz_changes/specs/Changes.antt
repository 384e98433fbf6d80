-- Differences by their owners.
use Rattle.std.specs.Prelude.{ℕ, ◌+◌, ◌==◌, if◌then◌else◌, List, [], ◌∷◌, slice_index_or}
use Rattle.std.specs.List.{filter}
use Rattle.sqz_changes.specs.declared.change.Change.{Change}
use Rattle.sqz_changes.specs.declared.place.Difference.{Difference}
use Rattle.sqz_changes.specs.Compared.{Compared}
use Rattle.sqz_changes.specs.Differences.{differences, is_quiet, is_shown}
use Rattle.sqz_changes.specs.Owners.{owners}

-- the changes after one more difference of an owner: it counts for the owner's change, which it
-- begins at the end if there is none
abbrev pub with_difference : ℕ → Difference → List Change → List Change
with_difference owner difference [] = record { owner = owner; first = difference; count = 1 } ∷ []
with_difference owner difference (change ∷ changes) =
    if change.owner == owner
    then record change { count = change.count + 1 } ∷ changes
    else change ∷ with_difference owner difference changes

-- the changes after these differences, by the owners of pairs
abbrev pub with_differences : List ℕ → List Change → List Difference → List Change
with_differences owners changes [] = changes
with_differences owners changes (difference ∷ differences) =
    with_differences owners (with_difference (slice_index_or owners difference.pair 0) difference changes) differences

-- the changes that differences make
abbrev pub changes_of : Compared → List Difference → List Change
changes_of compared differences = with_differences (owners compared) [] differences

-- those of the differences that are not quiet, and those of the others
abbrev pub shown_changes : Compared → List Change
shown_changes compared = changes_of compared (filter (is_shown compared) (differences compared))

abbrev pub quiet_changes : Compared → List Change
quiet_changes compared = changes_of compared (filter (is_quiet compared) (differences compared))
