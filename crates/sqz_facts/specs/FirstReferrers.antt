-- The first two references to each of some objects.
use Rattle.std.specs.Prelude.{◌≡◌, ◌≢◌, ◌<◌, ℕ, List, [], ◌∷◌, length, slice_index, slice_index_or}
use Rattle.std.specs.Prelude.{Option, Some, None, IfSome}
use Rattle.sqz_facts.specs.declared.referrers.Referrer.{Referrer}
use Rattle.sqz_facts.specs.declared.first_referrers.FirstReferrers.{FirstReferrers}

-- the objects that hold the references are below a count
pub record AreInside (count : ℕ) (referrers : FirstReferrers) : Type 0 where
  pub first : IfSome referrers.first (λ referrer. referrer.object < count)
  pub second : IfSome referrers.second (λ referrer. referrer.object < count)

-- the first two of some references
abbrev pub first_two : List Referrer → FirstReferrers
first_two [] = record { first = None; second = None }
first_two (one ∷ []) = record { first = Some one; second = None }
first_two (one ∷ two ∷ more) = record { first = Some one; second = Some two }

-- the row of an object in a table by object
abbrev pub row_of : List (Option ℕ) → ℕ → Option ℕ
row_of rows object = slice_index_or rows object None

-- by object its place among the first `taken` objects of a list, if it is one of them
pub record AreRows (count taken : ℕ) (objects : List ℕ) (rows : List (Option ℕ)) : Type 0 where
  pub all : length rows ≡ count
  pub inside : (object row : ℕ) → row_of rows object ≡ Some row → row < taken
  pub own : (object row : ℕ) → row_of rows object ≡ Some row → slice_index objects row ≡ object
  pub each : (row : ℕ) → row < taken → slice_index objects row < count → row_of rows (slice_index objects row) ≢ None

-- the references in a row; none if there is no row
abbrev pub first_at : List FirstReferrers → Option ℕ → FirstReferrers
first_at firsts (Some row) = slice_index_or firsts row (first_two [])
first_at firsts None = first_two []

-- each row has the first two references to its object
pub record AreFirstTwo (rows : List (Option ℕ)) (references : ℕ → List Referrer) (firsts : List FirstReferrers) : Type 0 where
  pub first : (object row : ℕ) → row_of rows object ≡ Some row → first_at firsts (Some row) ≡ first_two (references object)
