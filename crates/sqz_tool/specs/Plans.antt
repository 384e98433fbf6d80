-- Which numbers are valid in a plan, and what the words of a command line ask for.
use Rattle.std.specs.Prelude.{◌≡◌, ℕ, ◌^◌, ◌≤◌, List, Option, Some, None, codes}
use Rattle.std.specs.Str.Parse.{digits_value, without_leading_plus}
use Rattle.clap.specs.Words.{Row, Text, one_of}

-- the valid numbers of workers
abbrev pub IsWorkers : ℕ → Type 0
IsWorkers number = (1 ≤ number) × (number ≤ 64)

-- the valid numbers of words of a region
abbrev pub IsRegion : ℕ → Type 0
IsRegion words = (1 ≤ words) × (words ≤ 2 ^ 30)

-- the number in a text of decimal digits, perhaps after a plus sign
abbrev pub number_in : Option Text → ℕ
number_in (Some text) = digits_value 10 (without_leading_plus text)
number_in None = 0

-- the words ask for a valid number of workers and a valid size of a region
abbrev pub AsksForPlan : List Row → Type 0
AsksForPlan rows = IsWorkers (number_in (one_of (codes "workers") rows)) × IsRegion (number_in (one_of (codes "region-words") rows))

-- the words ask for weak slots to be cleared
abbrev pub AsksToClear : List Row → Type 0
AsksToClear rows = one_of (codes "clear-weak") rows ≡ Some (codes "true")

-- the words ask for a census
abbrev pub AsksForCensus : List Row → Type 0
AsksForCensus rows = one_of (codes "census") rows ≡ Some (codes "true")
