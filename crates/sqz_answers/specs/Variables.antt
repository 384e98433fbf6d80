-- The variables of an image, by object index.
use Rattle.std.specs.Prelude.{◌≡◌, ◌<◌, ℕ, Bool, true, false, List, length, replicate, slice_set, slice_index_or, Option, Some, None}

-- whether each object only holds variables, and the object that each association of a variable holds
pub record Variables : Type 0 where
  pub holders : List Bool
  pub values : List (Option ℕ)

-- one of each for each object, and values are objects
pub record AreInRange (holders : List Bool) (values : List (Option ℕ)) : Type 0 where
  pub same : length values ≡ length holders
  pub inside : (object value : ℕ) → slice_index_or values object None ≡ Some value → value < length holders

-- no variables of this number of objects
abbrev pub no_variables : ℕ → Variables
no_variables count = record { holders = replicate count false; values = replicate count None }

-- one more object holds variables, if there is one
abbrev pub with_holder : Option ℕ → List Bool → List Bool
with_holder None holders = holders
with_holder (Some object) holders = slice_set holders object true

-- a variable more: its association, its value, and the dictionary with its array that holds the
-- association
abbrev pub with_variable : ℕ → Option ℕ → ℕ → Option ℕ → Variables → Variables
with_variable association value dictionary array variables = record {
  holders = with_holder array (slice_set variables.holders dictionary true);
  values = slice_set variables.values association value;
}
