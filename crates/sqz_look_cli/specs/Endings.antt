-- How the program ends after a question, by its exit and the state of standard output.
use Rattle.std.specs.Prelude.{◌≡◌, ◌||◌, ℕ, Bool, true, false, List, Option, Result, OnOk, vec_len}
use Rattle.sqz_image.specs.Devices.{SinkState}
use Rattle.sqz_trace.specs.WeakSlots.{weak_of}
use Rattle.sqz_look_args.specs.declared.question.Question.{Question}
use Rattle.sqz_look_args.specs.declared.question.Question.TheVariants.{Check, Mend}
use Rattle.sqz_look_args.specs.declared.requests.Request.{Request}
use Rattle.sqz_look_files.specs.declared.failure.Failure.{Failure}
use Rattle.sqz_look_files.specs.Verdicts.{EndsChecks}
use Rattle.sqz_look_files.specs.Failures.{exit_of_outcome}

-- a fact of whether warnings are asked for and of the number of images, if the question is whether
-- images are sound
abbrev pub IfCheck : Question → (Bool → ℕ → Type 0) → Type 0
IfCheck (Check images all strict) P = P strict (vec_len images)
IfCheck _ P = Unit {0}

-- a fact of whether pointers are to become nil, if an image is to be mended
abbrev pub IfMend : Question → (Bool → Type 0) → Type 0
IfMend (Mend image nil) P = P nil
IfMend _ P = Unit {0}

-- an image is to be mended
abbrev pub is_mend : Question → Bool
is_mend (Mend image nil) = true
is_mend _ = false

-- whether images are read past what cannot be read: if that is asked for, and if one is to be mended
abbrev pub looks_past : Question → Bool → Bool
looks_past question past = past || is_mend question

-- the sink has not failed, and has passed on all that it took
pub record HasPassedOn (sink : SinkState) : Type 0 where
  pub sound : sink.failed ≡ false
  pub flushed : sink.unflushed ≡ false

-- the exit is that of an answer, all of which was passed on, or that of a failure; the exit of a
-- check says which images are sound
pub record EndsAnswer {F : Type 0} (left : F → Option (List ℕ)) (request : Request) (out : SinkState) (exit : ℕ) : Type 0 where
  pub outcome : Result ℕ Failure
  pub exit_is : exit ≡ exit_of_outcome outcome
  pub whole : OnOk outcome (HasPassedOn out)
  pub checked : IfCheck request.question
      (λ strict files. EndsChecks left (weak_of request.clear_weak) request.past_damage strict files outcome)
