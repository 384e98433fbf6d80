-- Votes as the code counts them, and readings as it keeps them.
use Rattle.std.specs.Prelude.{◌≡◌, ℕ, ◌+◌, ◌-◌, ◌^◌, ◌<◌, ◌≤◌, Bool, false, List, length, drop, slice_index, slice_index_or}
use Rattle.std.specs.List.{flat_map}
use Rattle.sqz_damage.specs.declared.fit.Fit.{Fit}
use Rattle.sqz_damage.specs.declared.reading.Reading.{Reading}
use Rattle.sqz_damage.specs.declared.split.Split.{Split}
use Rattle.sqz_damage.specs.declared.voted.VotedWords.{VotedWords}
use Rattle.sqz_damage.specs.Votes.{AreVotes, votes_of, sum_from}
use Rattle.sqz_damage.specs.Losses.{IsBestSplit, fits_among, moving, staying}
use Rattle.sqz_damage.specs.Readings.{Part, IsBestReading, gaps_among, voters_of}

-- the sums of the votes for `count` words from each index up to their end
pub record AreLaterVotes (votes : ℕ → ℕ) (count : ℕ) (later : List ℕ) : Type 0 where
  pub sized : length later ≡ count + 1
  pub each : (k : ℕ) → k ≤ count → slice_index later k ≡ sum_from votes k (count - k)

-- words with their votes
pub record IsVoted (voted : VotedWords) : Type 0 where
  pub few : length voted.words.now < 2 ^ 30
  pub sized : length voted.votes.now ≡ length voted.words.now
  pub later : AreLaterVotes (votes_of voted.votes.now) (length voted.words.now) voted.later.now

-- a best reading of the words by these votes, with its gaps and the votes of its objects for `count`
-- words
pub record IsReadBy (base count : ℕ) (votes : ℕ → ℕ) (words : List ℕ) (reading : Reading) : Type 0 where
  pub parts : List Part
  pub best : IsBestReading votes words parts
  pub gaps_are : gaps_among 0 parts ≡ reading.gaps.items
  pub sized : length reading.votes.items ≡ count
  pub votes_are : AreVotes base (flat_map voters_of parts) reading.votes.items

-- the objects of a best reading of the words by these votes. A list says of each word whether a slot
-- leads to it, and has as many words more as were lost
pub record AreFits (votes : ℕ → ℕ) (slots : List Bool) (words : List ℕ) (fits : List Fit) : Type 0 where
  pub parts : List Part
  pub best : IsBestReading votes words parts
  pub fits_are : fits_among (λ k. slice_index_or slots k false) (length slots - length words) 0 parts ≡ fits

-- the counts of the objects from index `split.at` on
pub record IsSplit (fits : List Fit) (split : Split) : Type 0 where
  pub inside : split.at ≤ length fits
  pub stays_are : split.stays ≡ staying (drop split.at fits)
  pub moves_are : split.moves ≡ moving (drop split.at fits)

-- so for the best one
pub record IsBestSplitAt (fits : List Fit) (split : Split) : Type 0 where
  pub is_split : IsSplit fits split
  pub best : IsBestSplit fits split.at
