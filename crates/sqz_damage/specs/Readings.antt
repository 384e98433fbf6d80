-- Readings of data words: sequences of chunks and gaps, and what they cost.
use Rattle.std.specs.Prelude.{◌≡◌, ℕ, ◌+◌, ◌-◌, ◌*◌, ◌^◌, ◌<◌, ◌≤◌, if◌then◌else◌, List, [], ◌∷◌, ◌++◌, map, length, take}
use Rattle.std.specs.Option.{option_to_list}
use Rattle.std.specs.List.{concat, flat_map, AllByRecursion}
use Rattle.sqz_object.specs.Chunk.{IsChunk, is_object, before, fields}
use Rattle.sqz_image.specs.declared.slot.Slot.TheVariants.{ClassWord}
use Rattle.sqz_trace.specs.Slots.{slot_word, traced}
use Rattle.sqz_damage.specs.declared.gap.Gap.{Gap}
use Rattle.sqz_damage.specs.Votes.{votes_for, sum_from}

-- a part of a reading, with its words: a chunk, or a gap
pub data Part : Type 0 where
  Chunk : List ℕ → Part
  Skipped : List ℕ → Part

abbrev pub part_words : Part → List ℕ
part_words (Chunk words) = words
part_words (Skipped words) = words

-- a gap may have any words, but at least one
abbrev pub IsPart : Part → Type 0
IsPart (Chunk words) = IsChunk words
IsPart (Skipped words) = 0 < length words

-- the parts are a reading of the words
pub record IsReading (words : List ℕ) (parts : List Part) : Type 0 where
  pub each : AllByRecursion IsPart parts
  pub whole : concat (map part_words parts) ≡ words

-- the gaps among parts that begin at word `first`
abbrev pub gaps_among : ℕ → List Part → List Gap
gaps_among first [] = []
gaps_among first (Chunk words ∷ parts) = gaps_among (first + length words) parts
gaps_among first (Skipped words ∷ parts) =
    record { first = first; words = length words } ∷ gaps_among (first + length words) parts

-- the votes that a chunk at word `first` does not contradict: those for the base header of an
-- object
abbrev pub kept_votes : (ℕ → ℕ) → ℕ → List ℕ → ℕ
kept_votes votes first chunk = if is_object chunk then votes (first + before chunk) else 0

-- the votes that it contradicts
abbrev pub contradicted : (ℕ → ℕ) → ℕ → List ℕ → ℕ
contradicted votes first chunk = sum_from votes first (length chunk) - kept_votes votes first chunk

-- what it costs to skip `count` words from word `first` on. A contradicted vote costs 2 ^ 30 and a
-- skipped word 1. There are fewer than 2 ^ 30 words, so costs compare first by the contradicted
-- votes, and then by the skipped words.
abbrev pub skip_cost : (ℕ → ℕ) → ℕ → ℕ → ℕ
skip_cost votes first count = sum_from votes first count * 2 ^ 30 + count

-- what a part at word `first` costs. A gap costs as much as 4 contradicted votes more than the words
-- that it skips.
abbrev pub part_cost : (ℕ → ℕ) → ℕ → Part → ℕ
part_cost votes first (Chunk words) = contradicted votes first words * 2 ^ 30
part_cost votes first (Skipped words) = 4 * 2 ^ 30 + skip_cost votes first (length words)

-- what parts from word `first` on cost
abbrev pub cost_from : (ℕ → ℕ) → ℕ → List Part → ℕ
cost_from votes first [] = 0
cost_from votes first (part ∷ parts) =
    part_cost votes first part + cost_from votes (first + length (part_words part)) parts

-- a reading of the words that no other reading undercuts
pub record IsBestReading (votes : ℕ → ℕ) (words : List ℕ) (parts : List Part) : Type 0 where
  pub reading : IsReading words parts
  pub least : (other : List Part) → IsReading words other → cost_from votes 0 parts ≤ cost_from votes 0 other

-- the words that the slots of an object hold: the address in its class word, and its traced fields
abbrev pub slot_words : List ℕ → List ℕ
slot_words chunk = option_to_list (slot_word chunk ClassWord) ++ take (traced chunk) (fields chunk)

-- the words that the slots of a part hold: those of an object; free chunks and gaps have no slots
abbrev pub voters_of : Part → List ℕ
voters_of (Chunk words) = if is_object words then slot_words words else []
voters_of (Skipped words) = []

-- the gaps of the third of three readings, if word 0 has the address `base`. In the first one, each
-- word is a voter, whatever it means; then the words that the slots of the reading before hold
pub record AreBestGaps (base : ℕ) (words : List ℕ) (gaps : List Gap) : Type 0 where
  pub first : List Part
  pub second : List Part
  pub third : List Part
  pub first_best : IsBestReading (votes_for base words) words first
  pub second_best : IsBestReading (votes_for base (flat_map voters_of first)) words second
  pub third_best : IsBestReading (votes_for base (flat_map voters_of second)) words third
  pub gaps_are : gaps_among 0 third ≡ gaps
