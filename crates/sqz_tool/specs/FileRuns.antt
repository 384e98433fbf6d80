-- Runs from one file to another. Contracts see no bytes unless the files show them.
use Rattle.std.specs.Prelude.{◌≡◌, ◌≢◌, ◌⊎◌, ℕ, Bool, true, List, Option, Result, MatchResult}
use Rattle.clap.specs.Words.{Text}
use Rattle.sqz_image.specs.declared.fault.Fault.{Fault}
use Rattle.sqz_image.specs.declared.fault.Fault.TheVariants.{ReadFailed, BadWorkers, BadCut}
use Rattle.sqz_image.specs.Devices.{SourceState, SinkState, new_source}
use Rattle.sqz_cli.specs.OutputFiles.{new_output}
use Rattle.sqz_trace.specs.declared.weak.Weak.{Weak}
use Rattle.sqz_tool.specs.declared.summary.Summary.{Summary}
use Rattle.sqz_tool.specs.Headline.{Compacts, Refuses, Sinks, sinks}

-- how files are seen: an open file, of type F, by the bytes that it has left, if contracts see
-- them; and the sink of an output file, of type S, by its state and the path of that file
pub record Views (F S : Type 0) : Type 0 where
  pub left : F → Option (List ℕ)
  pub state : S → SinkState
  pub path : S → Text

-- something was done over all that some file had left, to the sink of the output file with this
-- path, which was not created yet, and to the sink of a census
pub record RunsFiles {F S : Type 0} (views : Views F S) (path : Text) (old new : SinkState)
    (Does : SourceState → SourceState → Sinks → Sinks → Type 0) : Type 0 where
  pub file : F
  pub to : SourceState
  pub sink : S
  pub named : views.path sink ≡ path
  pub not_made : views.state sink ≡ new_output
  pub after : S
  pub does : Does (new_source (views.left file)) to (sinks (views.state sink) old) (sinks (views.state after) new)

-- it was a run that succeeded
abbrev pub CompactsFiles : {F S : Type 0} → Views F S → Text → Weak → Bool → SinkState → SinkState → Summary → Type 0
CompactsFiles views path weak census old new summary =
    RunsFiles views path old new (λ from to before after. Compacts true weak census from to before after summary)

-- it was a run that failed
abbrev pub RefusesFiles : {F S : Type 0} → Views F S → Text → Weak → Bool → SinkState → SinkState → Fault → Type 0
RefusesFiles views path weak census old new fault =
    RunsFiles views path old new (λ from to before after. Refuses true weak census from to before after fault)

-- the image was not opened, so nothing was done
pub record IsUnopened (old new : SinkState) (fault : Fault) : Type 0 where
  pub named : fault ≡ ReadFailed
  pub untouched : new ≡ old

-- what was done if the plan is valid but the run failed
abbrev pub StopsFiles : {F S : Type 0} → Views F S → Text → Weak → Bool → SinkState → SinkState → Fault → Type 0
StopsFiles views path weak census old new fault =
    IsUnopened old new fault ⊎ RefusesFiles views path weak census old new fault

-- how a call on files ended: with a run that succeeded, or with a fault, which says what was done
-- if the plan is valid
abbrev pub EndsFiles : {F S : Type 0} → Views F S → Text → Weak → Bool → SinkState → SinkState → Result Summary Fault → Type 0
EndsFiles views path weak census old new outcome =
    MatchResult outcome (CompactsFiles views path weak census old new)
    (λ fault. fault ≢ BadWorkers → fault ≢ BadCut → StopsFiles views path weak census old new fault)
