-- How the program ends, by the words of its command line: its exit code, and what standard output
-- and standard error took.
use Rattle.std.specs.Prelude.{◌≡◌, ◌≢◌, ◌<◌, ◌⊎◌, ◌↔◌, ℕ, Bool, true, List, [], Some, codes}
use Rattle.clap.specs.Words.{Text, fault_of, first_of, matches_of}
use Rattle.sqz_image.specs.declared.fault.Fault.{Fault}
use Rattle.sqz_image.specs.declared.fault.Fault.TheVariants.{OutOfMemory, ReadFailed, WriteFailed, BadWorkers, BadCut}
use Rattle.sqz_image.specs.Devices.{SinkState}
use Rattle.sqz_tool.specs.declared.summary.Summary.{Summary}
use Rattle.sqz_compact_args.specs.CommandLine.{command_line}
use Rattle.sqz_cli.specs.Exits.{exit_of}
use Rattle.sqz_tool.specs.FileRuns.{Views, CompactsFiles, RefusesFiles}
use Rattle.sqz_cli.specs.Lines.{PrintsFault}
use Rattle.sqz_tool.specs.Plans.{AsksToClear, AsksForCensus}
use Rattle.sqz_trace.specs.WeakSlots.{weak_of}

-- the words are accepted
abbrev pub AreTaken : List Text → Type 0
AreTaken words = fault_of command_line words ≡ []

-- the words ask for this of a run: the path of OUT, whether weak slots are cleared, and whether
-- there is a census
pub record AsksFor (words : List Text) (path : Text) (clear census : Bool) : Type 0 where
  pub out : first_of (codes "OUT") (matches_of command_line words) ≡ Some path
  pub clears : (clear ≡ true) ↔ AsksToClear (matches_of command_line words)
  pub counts : (census ≡ true) ↔ AsksForCensus (matches_of command_line words)

-- a run compacted some file into OUT, as the words ask for it
pub record EndsWhole {F S : Type 0} (views : Views F S) (words : List Text) (out new_out : SinkState) : Type 0 where
  pub path : Text
  pub clear : Bool
  pub census : Bool
  pub asked : AsksFor words path clear census
  pub summary : Summary
  pub compacts : CompactsFiles views path (weak_of clear) census out new_out summary

-- a run over some file, to OUT, as the words ask for it, failed
pub record EndsRefused {F S : Type 0} (views : Views F S) (words : List Text) (out new_out : SinkState) (fault : Fault) : Type 0 where
  pub path : Text
  pub clear : Bool
  pub census : Bool
  pub asked : AsksFor words path clear census
  pub refuses : RefusesFiles views path (weak_of clear) census out new_out fault

-- the faults that may stop the program before a run: the words ask for no valid plan, memory runs
-- out while they are parsed, or IN cannot be opened; no contract of the files says when the last
-- is so
abbrev pub MayStopEarly : Fault → Type 0
MayStopEarly BadWorkers = Unit {0}
MayStopEarly BadCut = Unit {0}
MayStopEarly OutOfMemory = Unit {0}
MayStopEarly ReadFailed = Unit {0}
MayStopEarly _ = ⊥

-- a fault stopped the program, which printed its line. Standard output is unchanged unless a write
-- failed. The fault is that of a run, or one that may stop the program before a run
pub record EndsFaulty {F S : Type 0} (views : Views F S) (words : List Text) (exit : ℕ) (out new_out err new_err : SinkState) : Type 0 where
  pub fault : Fault
  pub exit_is : exit ≡ exit_of fault
  pub printed : PrintsFault err new_err fault
  pub untouched : fault ≢ WriteFailed → new_out ≡ out
  pub refuses : MayStopEarly fault ⊎ EndsRefused views words out new_out fault

-- how the program ends if the words are accepted: with 0 after a run that succeeded, and with more
-- after a fault
pub record Ends {F S : Type 0} (views : Views F S) (words : List Text) (exit : ℕ) (out new_out err new_err : SinkState) : Type 0 where
  pub whole : exit ≡ 0 → EndsWhole views words out new_out
  pub faulty : 0 < exit → EndsFaulty views words exit out new_out err new_err
