-- What is printed on standard error: one line per fault.
use Rattle.std.specs.Prelude.{◌≡◌, ◌≢◌, ◌⊎◌, ℕ, ◌<◌, List, ◌++◌, length, slice_index, codes, decimal}
use Rattle.sqz_image.specs.declared.fault.Fault.{Fault}
use Rattle.sqz_image.specs.declared.fault.Fault.TheVariants.{WriteFailed}
use Rattle.sqz_image.specs.Numbers.{number_of_fault}
use Rattle.sqz_image.specs.Devices.{SinkState, WritesWhole, WriteStops}

-- no byte of the text ends a line
abbrev pub HasNoEnd : List ℕ → Type 0
HasNoEnd text = (k : ℕ) → k < length text → slice_index text k ≢ 10

-- the line of a fault: its number, and a text that describes it
pub record IsFaultLine (fault : Fault) (line : List ℕ) : Type 0 where
  pub text : List ℕ
  pub one_line : HasNoEnd text
  pub line_is : line ≡ codes "fault " ++ decimal (number_of_fault fault) ++ codes ": " ++ text ++ codes "\n"

-- a sink took these bytes and nothing else, or a prefix of them before it stopped
abbrev pub Prints : SinkState → SinkState → List ℕ → Type 0
Prints old new bytes = WritesWhole old new bytes ⊎ WriteStops old new bytes WriteFailed

-- the sink took the line of a fault and nothing else, or a prefix of it
abbrev pub PrintsFault : SinkState → SinkState → Fault → Type 0
PrintsFault old new fault = (line : List ℕ) × IsFaultLine fault line × Prints old new line
