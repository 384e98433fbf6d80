-- Where data words were lost: slots lead to the objects before this place as they are, and to those
-- after it only if the words are put back.
use Rattle.std.specs.Prelude.{◌≡◌, ℕ, ◌+◌, ◌*◌, ◌<◌, ◌≤◌, Bool, ◌||◌, if◌then◌else◌, List, [], ◌∷◌, ◌++◌, length, drop, Option, Some, None}
use Rattle.std.specs.List.{flat_map}
use Rattle.sqz_object.specs.Chunk.{is_object, before}
use Rattle.sqz_damage.specs.declared.fit.Fit.{Fit}
use Rattle.sqz_damage.specs.Votes.{has_vote}
use Rattle.sqz_damage.specs.Readings.{Part, Chunk, Skipped, part_words, IsBestReading, voters_of}

-- whether a voter is the address of word `k`, if word 0 has the address `base` and `lost` words were
-- lost after word `k`, or before it
abbrev pub has_either_vote : ℕ → ℕ → List ℕ → ℕ → Bool
has_either_vote base lost voters k = has_vote base voters k || has_vote base voters (k + lost)

-- the number of such votes for word `k`: 1 or 0
abbrev pub either_votes : ℕ → ℕ → List ℕ → ℕ → ℕ
either_votes base lost voters k = if has_either_vote base lost voters k then 1 else 0

-- the object of a part that begins at word `first`, and whether it has a vote where it is, and if
-- words were lost before it; `has` says which words have a vote
abbrev pub fits_at : (ℕ → Bool) → ℕ → ℕ → Part → List Fit
fits_at has lost first (Chunk words) =
    if is_object words
    then record { first = first; stays = has (first + before words); moves = has (first + before words + lost) } ∷ []
    else []
fits_at has lost first (Skipped words) = []

-- the objects of parts from word `first` on
abbrev pub fits_among : (ℕ → Bool) → ℕ → ℕ → List Part → List Fit
fits_among has lost first [] = []
fits_among has lost first (part ∷ parts) =
    fits_at has lost first part ++ fits_among has lost (first + length (part_words part)) parts

-- how many objects have a vote where they are
abbrev pub staying : List Fit → ℕ
staying [] = 0
staying (fit ∷ fits) = (if fit.stays then 1 else 0) + staying fits

-- how many have one if words were lost before them
abbrev pub moving : List Fit → ℕ
moving [] = 0
moving (fit ∷ fits) = (if fit.moves then 1 else 0) + moving fits

-- if the words were lost before object `i`, more objects have a vote than if they were lost
-- before an earlier one, and than if they were lost before a later one or at the end
pub record IsBestSplit (fits : List Fit) (i : ℕ) : Type 0 where
  pub inside : i ≤ length fits
  pub most : (j : ℕ) → j ≤ length fits
      → moving (drop j fits) + staying (drop i fits) ≤ moving (drop i fits) + staying (drop j fits)
  pub last : (j : ℕ) → i < j → j ≤ length fits
      → moving (drop j fits) + staying (drop i fits) < moving (drop i fits) + staying (drop j fits)

-- it is clear that words were lost before these objects, the last ones: at least 16 more have a vote
-- than if they stay, and more than half of them have one
abbrev pub IsClear : List Fit → Type 0
IsClear fits = (staying fits + 16 ≤ moving fits) × (length fits < 2 * moving fits)

-- the word at which the first of some objects begins
abbrev pub first_word : List Fit → Option ℕ
first_word [] = None
first_word (fit ∷ fits) = Some fit.first

-- the word before which words were lost, by the objects; None if that is not clear
pub record IsLossBefore (fits : List Fit) (place : Option ℕ) : Type 0 where
  pub object : ℕ
  pub best : IsBestSplit fits object
  pub clear : IsClear (drop object fits) → place ≡ first_word (drop object fits)
  pub unclear : (IsClear (drop object fits) → ⊥) → place ≡ None

-- the word before which `lost` words were lost; word 0 has the address `base`. In a first reading,
-- each word is a voter, whatever it means; then the words that the slots of its objects hold
pub record IsLoss (base : ℕ) (words : List ℕ) (lost : ℕ) (place : Option ℕ) : Type 0 where
  pub first : List Part
  pub second : List Part
  pub first_best : IsBestReading (either_votes base lost words) words first
  pub second_best : IsBestReading (either_votes base lost (flat_map voters_of first)) words second
  pub place_is : IsLossBefore (fits_among (has_vote base (flat_map voters_of first)) lost 0 second) place
