-- From what a run returned to how the program ends.
-- Serves `entry_point::program`.
use Rattle.std.proofs.Common.{◌≡◌, ◌≢◌, ℕ, ◌<◌, ◌⊎◌, Bool, List, Result, Ok, Err, arith, inl, inr}
use Rattle.std.proofs.lemmas.Bool.Decides.{nat_tests}
use Rattle.std.specs.Prelude.{IfErr, MatchResult}
use Rattle.clap.specs.Words.{Text}
use Rattle.sqz_image.specs.declared.fault.Fault.{Fault}
use Rattle.sqz_image.specs.declared.fault.Fault.TheVariants.{OutOfMemory, ReadFailed, WriteFailed, BadWorkers, BadCut}
use Rattle.sqz_image.specs.Devices.{SinkState}
use Rattle.sqz_image.specs.Numbers.{number_of_fault}
use Rattle.sqz_tool.specs.declared.summary.Summary.{Summary}
use Rattle.sqz_tool.specs.Endings.{AsksFor, EndsWhole, EndsRefused, MayStopEarly, EndsFaulty}
use Rattle.sqz_cli.specs.Exits.{exit_of, exit_of_number}
use Rattle.sqz_tool.specs.FileRuns.{Views, StopsFiles, EndsFiles}
use Rattle.sqz_cli.specs.Lines.{PrintsFault}
use Rattle.sqz_trace.specs.WeakSlots.{weak_of}

-- no fault ends the program as done
exit_of_number-some : (number : ℕ) → 0 < exit_of_number number
exit_of_number-some number = grind (arith, nat_tests)

-- the fault is none of a plan, and not that a file could not be read
abbrev ComesLate : Fault → Type 0
ComesLate fault = (fault ≢ BadWorkers) × (fault ≢ BadCut) × (fault ≢ ReadFailed)

-- each fault may stop the program before a run, or is one of these
early_or_late : (fault : Fault) → MayStopEarly fault ⊎ ComesLate fault
early_or_late BadWorkers = inl tt
early_or_late BadCut = inl tt
early_or_late OutOfMemory = inl tt
early_or_late ReadFailed = inl tt
early_or_late _ = inr ((λ e. absurd (cc e)), (λ e. absurd (cc e)), (λ e. absurd (cc e)))

module _ {F S : Type 0} (views : Views F S) (words : List Text) (out new_out : SinkState) (exit : ℕ) where
  module _ (path : Text) (clear census : Bool) (asked : AsksFor words path clear census) where
    pub ends_whole : (outcome : Result Summary Fault) → MatchResult outcome (λ _. exit ≡ 0) (λ fault. exit ≡ exit_of fault)
        → EndsFiles views path (weak_of clear) census out new_out outcome → exit ≡ 0
        → EndsWhole views words out new_out
    ends_whole (Ok summary) is compacts done = record {
      path = path;
      clear = clear;
      census = census;
      asked = asked;
      summary = summary;
      compacts = compacts;
    }
    ends_whole (Err fault) is compacts done = absurd (let some = exit_of_number-some (number_of_fault fault) in omega arith)

    -- a fault that a call on files gave is that of a run, or one that may come before
    ends_by : (fault : Fault)
        → (fault ≢ BadWorkers → fault ≢ BadCut → StopsFiles views path (weak_of clear) census out new_out fault)
        → MayStopEarly fault ⊎ ComesLate fault → MayStopEarly fault ⊎ EndsRefused views words out new_out fault
    ends_by fault stops (inl early) = inl early
    ends_by fault stops (inr late) =
        elim (stops late.0 late.1) [
          | inl unopened ↦ absurd (late.2 unopened.named)
          | inr refuses ↦ inr (record { path = path; clear = clear; census = census; asked = asked; refuses = refuses })
        ]

    pub ends_faulty : (err new_err : SinkState) (outcome : Result Summary Fault)
        → MatchResult outcome (λ _. exit ≡ 0) (λ fault. exit ≡ exit_of fault)
        → IfErr outcome (λ fault. PrintsFault err new_err fault)
        → IfErr outcome (λ fault. fault ≢ WriteFailed → new_out ≡ out)
        → EndsFiles views path (weak_of clear) census out new_out outcome
        → 0 < exit → EndsFaulty views words exit out new_out err new_err
    ends_faulty err new_err (Ok summary) is printed untouched stops some = absurd (omega arith)
    ends_faulty err new_err (Err fault) is printed untouched stops some =
        record {
          fault = fault;
          exit_is = is;
          printed = printed;
          untouched = untouched;
          refuses = ends_by fault stops (early_or_late fault);
        }

  -- memory was refused while the words were read
  pub ends_without_memory : (err new_err : SinkState) → exit ≡ 4 → new_out ≡ out → PrintsFault err new_err OutOfMemory
      → EndsFaulty views words exit out new_out err new_err
  ends_without_memory err new_err is untouched printed =
      record { fault = OutOfMemory; exit_is = is; printed = printed; untouched = λ _. untouched; refuses = inl tt }
