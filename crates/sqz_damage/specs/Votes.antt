-- The votes for data words. A word has a vote if one of some words, the voters, is its address. Voters
-- that agree give one vote, so that an object to which many others point weighs no more than one to
-- which few do.
use Rattle.std.specs.Prelude.{◌≡◌, ℕ, zero, suc, ◌+◌, ◌*◌, ◌<◌, ◌==◌, Bool, false, if◌then◌else◌}
use Rattle.std.specs.Prelude.{List, ◌++◌, length, slice_index_or}
use Rattle.std.specs.List.{list_any}

-- whether word `k` has a vote, if word 0 has the address `base`
unfoldable pub has_vote : ℕ → List ℕ → ℕ → Bool
has_vote base voters k = list_any (λ word. word == base + 4 * k) voters

-- the number of votes for word `k`: 1 or 0
abbrev pub votes_for : ℕ → List ℕ → ℕ → ℕ
votes_for base voters k = if has_vote base voters k then 1 else 0

-- the number of votes for word `k`, if a list says of each word whether it has one
abbrev pub votes_of : List Bool → ℕ → ℕ
votes_of votes k = if slice_index_or votes k false then 1 else 0

-- the list says of each data word whether it has a vote
abbrev pub AreVotes : ℕ → List ℕ → List Bool → Type 0
AreVotes base voters votes = (k : ℕ) → k < length votes → slice_index_or votes k false ≡ has_vote base voters k

-- the votes of more voters are added to those of any others
pub record Casts (base : ℕ) (more : List ℕ) (old new : List Bool) : Type 0 where
  pub sized : length new ≡ length old
  pub added : (voters : List ℕ) → AreVotes base voters old → AreVotes base (voters ++ more) new

-- the sum of what a function gives for the `count` numbers from `first` on
abbrev pub sum_from : (ℕ → ℕ) → ℕ → ℕ → ℕ
sum_from f first zero = 0
sum_from f first (suc count) = f first + sum_from f (suc first) count
