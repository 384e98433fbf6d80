-- The groups that have marked objects, by key and in order, and their totals.
use Rattle.std.specs.Prelude.{◌≡◌, ◌⊎◌, ℕ, ◌*◌, ◌^◌, ◌<◌, List, length, slice_index_or}
use Rattle.sqz_histogram.specs.declared.group.GroupTotal.{GroupTotal}
use Rattle.sqz_histogram.specs.declared.tallies.Tally.{Tally}
use Rattle.sqz_histogram.specs.declared.shares.Share.{Share}
use Rattle.sqz_histogram.specs.Keys.{group_with}
use Rattle.sqz_histogram.specs.Tallies.{no_tally}

abbrev pub no_share : Share
no_share = record { key = 0; count = 0; words = 0 }

-- the number of objects and words of a group, by its key; it has at least one object
pub record IsShareOf (tallies : List Tally) (share : Share) : Type 0 where
  pub inside : share.key < length tallies
  pub tally : slice_index_or tallies share.key no_tally ≡ record { count = share.count; words = share.words }
  pub some : 0 < share.count
  pub few : share.words < 2 ^ 32

-- each group with a key below a bound that has an object has a share
abbrev pub HaveShares : List Tally → ℕ → List Share → Type 0
HaveShares tallies bound shares =
    (key : ℕ) → key < bound → 0 < (slice_index_or tallies key no_tally).count
    → (i : ℕ) × (i < length shares) × ((slice_index_or shares i no_share).key ≡ key)

-- the shares of the groups with a key below a bound, by key
pub record AreShares (tallies : List Tally) (bound : ℕ) (shares : List Share) : Type 0 where
  pub each : (i : ℕ) → i < length shares → IsShareOf tallies (slice_index_or shares i no_share)
  pub below : (i : ℕ) → i < length shares → (slice_index_or shares i no_share).key < bound
  pub all : HaveShares tallies bound shares
  pub rise : (i j : ℕ) → i < j → j < length shares
      → (slice_index_or shares i no_share).key < (slice_index_or shares j no_share).key

-- more words come first; on a tie the lower key does
abbrev pub IsBefore : Share → Share → Type 0
IsBefore one other = (other.words < one.words) ⊎ ((one.words ≡ other.words) × (one.key < other.key))

-- the shares of all groups, in order
pub record AreSharesInOrder (tallies : List Tally) (shares : List Share) : Type 0 where
  pub each : (i : ℕ) → i < length shares → IsShareOf tallies (slice_index_or shares i no_share)
  pub all : HaveShares tallies (length tallies) shares
  pub ordered : (i j : ℕ) → i < j → j < length shares
      → IsBefore (slice_index_or shares i no_share) (slice_index_or shares j no_share)

-- the total of the group that a share is of, given the number of objects
abbrev pub total_at : ℕ → Share → GroupTotal
total_at count share =
    record { group = group_with count share.key; count = share.count; bytes = 4 * share.words }
