-- Changes that are kept with the place of each owner's change.
use Rattle.std.specs.Prelude.{◌≡◌, ◌<◌, ◌+◌, ◌^◌, ℕ, List, [], ◌∷◌, length, slice_index_or, Option, Some, None}
use Rattle.sqz_alike.specs.Matching.{single_count}
use Rattle.sqz_changes.specs.declared.change.Change.{Change}
use Rattle.sqz_changes.specs.declared.place.Place.TheVariants.{Header}

-- the owner of the change at a place
abbrev pub owner_at : List Change → ℕ → ℕ
owner_at changes row =
    (slice_index_or changes row record { owner = 0; first = record { pair = 0; place = Header }; count = 0 }).owner

-- the row of an owner
abbrev pub row_of : List (Option ℕ) → ℕ → Option ℕ
row_of rows owner = slice_index_or rows owner None

-- each change stands at the row of its owner, and there is a row for each of so many owners
pub record IsTally (owners : ℕ) (changes : List Change) (rows : List (Option ℕ)) : Type 0 where
  pub sized : length rows ≡ owners
  pub bounded : owners < 2 ^ 32
  pub by_owner : (owner row : ℕ) → row_of rows owner ≡ Some row → (row < length changes) × (owner_at changes row ≡ owner)
  pub by_row : (row : ℕ) → row < length changes → row_of rows (owner_at changes row) ≡ Some row
  pub few : length changes + single_count rows ≡ length rows

-- the number of differences
abbrev pub counted : List Change → ℕ
counted [] = 0
counted (change ∷ changes) = change.count + counted changes
