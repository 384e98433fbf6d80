-- How a question ends, by its outcome.
-- Serves `printed`, `outcome_of` and `answer_request`.
use Rattle.std.proofs.Common.{◌≡◌, ◌≢◌, ◌⊎◌, ◌∙◌, ◌≤◌, ◌||◌, ℕ, Bool, true, false, List, Option, Result, Ok, Err, IfOk, OnOk}
use Rattle.std.proofs.Common.{length, codes, refl, sym, ap, subst, inl, inr, arith}
use Rattle.std.specs.Prelude.{map, string_bytes, vec_len}
use Rattle.std.specs.Borrow.{Bor}
use Rattle.std.proofs.lemmas.List.{length-map}
use Rattle.clap.specs.Words.{Row, Text}
use Rattle.sqz_image.specs.Devices.{SinkState, WritesWhole}
use Rattle.sqz_trace.specs.declared.weak.Weak.{Weak}
use Rattle.sqz_trace.specs.WeakSlots.{weak_of}
use Rattle.sqz_look_args.specs.declared.question.Question.{Question}
use Rattle.sqz_look_args.specs.declared.question.Question.TheVariants.{Census, Check, Diff, Digest, Info, Mend, Refs, Show, Why}
use Rattle.sqz_look_args.specs.declared.requests.Request.{Request}
use Rattle.sqz_look_args.specs.Requests.{AsksSoundness, IsCheckOf, given, has_flag}
use Rattle.sqz_look_files.specs.declared.failure.Failure.{Failure}
use Rattle.sqz_look_files.specs.declared.failure.Failure.TheVariants.{OutOfMemory, NotPrinted, NotRead, NotReadAt, NotThere}
use Rattle.sqz_look_files.specs.Verdicts.{AreChecked, EndsChecks, EndsWorst, IsChecked, IsWorst}
use Rattle.sqz_look_cli.specs.Comparison.{EndsComparison, IfDiff}
use Rattle.sqz_look_cli.specs.Endings.{IfCheck, IfMend, HasPassedOn, looks_past}
use Rattle.sqz_look_cli.specs.Each.{AreAnswered, EndsEach, IfEach, IsAnswered}
use Rattle.sqz_look_cli.specs.Objects.{AreAsked, EndsObjects, IfObjects}
use Rattle.sqz_look_files.specs.Failures.{exit_of_failure, exit_of_outcome, IsAnswerExit}
use Rattle.sqz_look_files.proofs.CheckLemmas.{exit_of_failure-range}

or-false : (b : Bool) → (b || false) ≡ b
or-false true = refl
or-false false = refl

-- the exit of an outcome is at most 4 and not 2
pub exit_of_outcome-range : (outcome : Result ℕ Failure) → IfOk outcome IsAnswerExit
    → (exit_of_outcome outcome ≤ 4) × (exit_of_outcome outcome ≢ 2)
exit_of_outcome-range (Ok exit) answers = answers
exit_of_outcome-range (Err failure) answers =
    let range = exit_of_failure-range failure in (range.1, range.2)

-- what holds of every answer holds of one with exit 0
pub IfOk-any : (P : Type 0) (outcome : Result ℕ Failure) → OnOk outcome P → IfOk outcome (λ exit. exit ≡ 0 → P)
IfOk-any P (Ok exit) holds = λ zero. holds
IfOk-any P (Err failure) holds = tt

-- exit 0 is that of an answer
pub whole_at_zero : (P : Type 0) (outcome : Result ℕ Failure) → OnOk outcome P → exit_of_outcome outcome ≡ 0 → P
whole_at_zero P (Ok exit) whole same = whole
whole_at_zero P (Err failure) whole same = let range = exit_of_failure-range failure in absurd (omega arith)

-- a sink that took a text has passed it on
pub HasPassedOn-written : (outcome : Result ℕ Failure) (old new : SinkState) (text : List ℕ) → OnOk outcome (WritesWhole old new text)
    → OnOk outcome (HasPassedOn new)
HasPassedOn-written (Ok exit) old new text written = record { sound = written.sound; flushed = written.flushed }
HasPassedOn-written (Err failure) old new text written = tt

-- a fact of the number of images follows from another one
IfCheck-weaker : (question : Question) (P Q : Bool → ℕ → Type 0) → ((strict : Bool) (files : ℕ) → P strict files → Q strict files)
    → IfCheck question P → IfCheck question Q
IfCheck-weaker (Check images all strict) P Q weaker holds = weaker _ _ holds
IfCheck-weaker _ P Q weaker holds = tt

-- so does one of the number of images that are asked about
IfEach-weaker : (question : Question) (P Q : ℕ → Type 0) → ((files : ℕ) → P files → Q files) → IfEach question P → IfEach question Q
IfEach-weaker (Info images) P Q weaker holds = weaker _ holds
IfEach-weaker (Census images counting by) P Q weaker holds = weaker _ holds
IfEach-weaker (Digest images) P Q weaker holds = weaker _ holds
IfEach-weaker _ P Q weaker holds = tt

-- and one of the words for objects
IfObjects-weaker : (question : Question) (P Q : List (List ℕ) → Type 0) → ((words : List (List ℕ)) → P words → Q words)
    → IfObjects question P → IfObjects question Q
IfObjects-weaker (Show image objects) P Q weaker holds = weaker _ holds
IfObjects-weaker (Why image objects raw) P Q weaker holds = weaker _ holds
IfObjects-weaker (Refs image objects) P Q weaker holds = weaker _ holds
IfObjects-weaker _ P Q weaker holds = tt

-- the outcome after the rest of the answer was written, or could not be written
module _ (answered outcome : Result ℕ Failure) (is : (outcome ≡ answered) ⊎ (outcome ≡ Err NotPrinted)) where
  pub IfOk-passed : (P : ℕ → Type 0) → IfOk answered P → IfOk outcome P
  IfOk-passed P holds = elim is [
    | inl same ↦ subst (λ (r : Result ℕ Failure). IfOk r P) (sym same) holds
    | inr same ↦ subst (λ (r : Result ℕ Failure). IfOk r P) (sym same) tt
  ]

  -- a fact of an answer that also holds if it could not be printed
  passed : (Ends : Result ℕ Failure → Type 0) → Ends (Err NotPrinted) → Ends answered → Ends outcome
  passed Ends unprinted ends = elim is [
    | inl same ↦ subst Ends (sym same) ends
    | inr same ↦ subst Ends (sym same) unprinted
  ]

  pub checks_passed : {F : Type 0} (left : F → Option (List ℕ)) (weak : Weak) (past : Bool) (question : Question)
      → IfCheck question (λ strict files. EndsChecks left weak past strict files answered)
      → IfCheck question (λ strict files. EndsChecks left weak past strict files outcome)
  checks_passed left weak past question =
      IfCheck-weaker question _ _ (λ strict files. passed (EndsChecks left weak past strict files) (inr refl))

  pub each_passed : {F : Type 0} (left : F → Option (List ℕ)) (weak : Weak) (past : Bool) (question : Question)
      → IfEach question (λ files. EndsEach left weak past files answered)
      → IfEach question (λ files. EndsEach left weak past files outcome)
  each_passed left weak past question = IfEach-weaker question _ _ (λ files. passed (EndsEach left weak past files) (inr refl))

  pub objects_passed : {F : Type 0} (left : F → Option (List ℕ)) (weak : Weak) (past : Bool) (question : Question)
      → IfObjects question (λ words. EndsObjects left weak past words answered)
      → IfObjects question (λ words. EndsObjects left weak past words outcome)
  objects_passed left weak past question = IfObjects-weaker question _ _ (λ words. passed (EndsObjects left weak past words) tt)

-- exits 0 and 1 are those of the files
IsWorst-ends : (IsExit : ℕ → Type 0) (files : ℕ) (outcome : Result ℕ Failure) → EndsWorst IsExit files outcome
    → exit_of_outcome outcome ≤ 1 → IsWorst IsExit files (exit_of_outcome outcome)
IsWorst-ends IsExit files (Ok exit) ends low = ends
IsWorst-ends IsExit files (Err failure) (inl memory) low =
    absurd (let high = subst (λ (f : Failure). exit_of_failure f ≤ 1) memory low in omega arith)
IsWorst-ends IsExit files (Err failure) (inr unprinted) low =
    absurd (let high = subst (λ (f : Failure). exit_of_failure f ≤ 1) unprinted low in omega arith)

worst_at_one : (IsExit : ℕ → Type 0) (files : ℕ) (outcome : Result ℕ Failure) (exit : ℕ) → exit ≡ exit_of_outcome outcome
    → EndsWorst IsExit files outcome → exit ≤ 1 → IsWorst IsExit files exit
worst_at_one IsExit files outcome exit same ends low =
    subst (IsWorst IsExit files) (sym same) (IsWorst-ends IsExit files outcome ends (subst (λ (e : ℕ). e ≤ 1) same low))

module _ {F : Type 0} (left : F → Option (List ℕ)) (weak : Weak) (past : Bool) where
  pub checked_at_one : (question : Question) (outcome : Result ℕ Failure) (exit : ℕ) → exit ≡ exit_of_outcome outcome
      → IfCheck question (λ strict files. EndsChecks left weak past strict files outcome)
      → IfCheck question (λ strict files. exit ≤ 1 → AreChecked left weak past strict files exit)
  checked_at_one question outcome exit same =
      IfCheck-weaker question _ _ (λ strict files. worst_at_one (IsChecked left weak past strict) files outcome exit same)

  pub each_at_one : (question : Question) (outcome : Result ℕ Failure) (exit : ℕ) → exit ≡ exit_of_outcome outcome
      → IfEach question (λ files. EndsEach left weak past files outcome)
      → IfEach question (λ files. exit ≤ 1 → AreAnswered left weak past files exit)
  each_at_one question outcome exit same =
      IfEach-weaker question _ _ (λ files. worst_at_one (IsAnswered left weak past) files outcome exit same)

-- exit 0 of an outcome is that of its answer
pub silent_at_zero : (P : Type 0) (outcome : Result ℕ Failure) → IfOk outcome (λ exit. exit ≡ 0 → P) → exit_of_outcome outcome ≡ 0 → P
silent_at_zero P (Ok exit) silent zero = silent zero
silent_at_zero P (Err failure) silent zero = let range = exit_of_failure-range failure in absurd (omega arith)

-- exit 0 of an image that is mended
pub mended_at_zero : (question : Question) (P : Bool → Type 0) (outcome : Result ℕ Failure) (exit : ℕ) → exit ≡ exit_of_outcome outcome
    → IfMend question (λ nil. OnOk outcome (P nil)) → IfMend question (λ nil. exit ≡ 0 → P nil)
mended_at_zero (Mend image nil) P outcome exit same written = λ zero. whole_at_zero (P nil) outcome written (sym same ∙ zero)
mended_at_zero _ P outcome exit same written = tt

-- to check images is not to mend one
pub checked_past : {F : Type 0} (left : F → Option (List ℕ)) (weak : Weak) (question : Question) (past : Bool) (outcome : Result ℕ Failure)
    → IfCheck question (λ strict files. EndsChecks left weak (looks_past question past) strict files outcome)
    → IfCheck question (λ strict files. EndsChecks left weak past strict files outcome)
checked_past left weak (Check images all strict) past outcome ends =
    subst (λ (p : Bool). EndsChecks left weak p strict (vec_len images) outcome) (or-false past) ends
checked_past left weak _ past outcome ends = tt

-- nor is it to compare two
pub compared_past : {F : Type 0} (left : F → Option (List ℕ)) (weak : Weak) (question : Question) (past : Bool) (outcome : Result ℕ Failure)
    → IfDiff question (EndsComparison left weak (looks_past question past) outcome)
    → IfDiff question (EndsComparison left weak past outcome)
compared_past left weak (Diff old new) past outcome ends =
    subst (λ (p : Bool). EndsComparison left weak p outcome) (or-false past) ends
compared_past left weak _ past outcome ends = tt

-- nor is it to answer a question about each of some images
pub each_past : {F : Type 0} (left : F → Option (List ℕ)) (weak : Weak) (question : Question) (past : Bool) (outcome : Result ℕ Failure)
    → IfEach question (λ files. EndsEach left weak (looks_past question past) files outcome)
    → IfEach question (λ files. EndsEach left weak past files outcome)
each_past left weak (Info images) past outcome ends =
    subst (λ (p : Bool). EndsEach left weak p (vec_len images) outcome) (or-false past) ends
each_past left weak (Census images counting by) past outcome ends =
    subst (λ (p : Bool). EndsEach left weak p (vec_len images) outcome) (or-false past) ends
each_past left weak (Digest images) past outcome ends =
    subst (λ (p : Bool). EndsEach left weak p (vec_len images) outcome) (or-false past) ends
each_past left weak _ past outcome ends = tt

-- nor one about objects
pub objects_past : {F : Type 0} (left : F → Option (List ℕ)) (weak : Weak) (question : Question) (past : Bool) (outcome : Result ℕ Failure)
    → IfObjects question (λ words. EndsObjects left weak (looks_past question past) words outcome)
    → IfObjects question (λ words. EndsObjects left weak past words outcome)
objects_past left weak (Show image objects) past outcome ends =
    subst (λ (p : Bool). EndsObjects left weak p (map string_bytes objects.items) outcome) (or-false past) ends
objects_past left weak (Why image objects raw) past outcome ends =
    subst (λ (p : Bool). EndsObjects left weak p (map string_bytes objects.items) outcome) (or-false past) ends
objects_past left weak (Refs image objects) past outcome ends =
    subst (λ (p : Bool). EndsObjects left weak p (map string_bytes objects.items) outcome) (or-false past) ends
objects_past left weak _ past outcome ends = tt

-- exits 0 and 1 of an outcome about objects
module _ {F : Type 0} (left : F → Option (List ℕ)) (weak : Weak) (past : Bool) where
  AreAsked-ends : (words : List (List ℕ)) (outcome : Result ℕ Failure) → EndsObjects left weak past words outcome
      → AreAsked left weak past words (exit_of_outcome outcome)
  AreAsked-ends words (Ok exit) ends = ends
  AreAsked-ends words (Err OutOfMemory) ends = record { there = λ zero. absurd (omega (arith, zero)); absent = λ one. absurd (omega (arith, one)) }
  AreAsked-ends words (Err NotPrinted) ends = record { there = λ zero. absurd (omega (arith, zero)); absent = λ one. absurd (omega (arith, one)) }
  AreAsked-ends words (Err (NotRead why)) ends = record { there = λ zero. absurd (omega (arith, zero)); absent = λ one. absurd (omega (arith, one)) }
  AreAsked-ends words (Err (NotReadAt path why)) ends = record { there = λ zero. absurd (omega (arith, zero)); absent = λ one. absurd (omega (arith, one)) }
  AreAsked-ends words (Err (NotThere message)) ends = record { there = λ zero. absurd (omega (arith, zero)); absent = λ one. inr ends }

  pub objects_asked : (question : Question) (outcome : Result ℕ Failure) (exit : ℕ) → exit ≡ exit_of_outcome outcome
      → IfObjects question (λ words. EndsObjects left weak past words outcome)
      → IfObjects question (λ words. AreAsked left weak past words exit)
  objects_asked question outcome exit same =
      IfObjects-weaker question _ _ (λ words ends. subst (AreAsked left weak past words) (sym same) (AreAsked-ends words outcome ends))

-- ---- what words with the subcommand `check` ask

-- the exit of files, by the values of these words
AreChecked-asked : {F : Type 0} (left : F → Option (List ℕ)) (rows : List Row) (question : Question) (weak : Weak) (past : Bool) (exit : ℕ)
    → IsCheckOf rows question → IfCheck question (λ strict files. exit ≤ 1 → AreChecked left weak past strict files exit) → exit ≤ 1
    → AreChecked left weak past (has_flag (codes "strict") rows) (length (given (codes "IMAGE") rows)) exit
AreChecked-asked left rows (Check images all strict) weak past exit is says low =
    let count : vec_len images ≡ length images.items = omega (arith, images.ok.0) in
    let files : vec_len images ≡ length (given (codes "IMAGE") rows) =
    count
    ∙ (sym (length-map images.items (λ (s : Bor Text). s.now)) ∙ ap (λ (xs : List Text). length xs) is.0)
    in
    subst (λ (s : Bool). AreChecked left weak past s (length (given (codes "IMAGE") rows)) exit) is.2
    (subst (λ (n : ℕ). AreChecked left weak past strict n exit) files (says low))
AreChecked-asked left rows _ weak past exit is says low = absurd is

-- so is that of a request
pub AreChecked-request : {F : Type 0} (left : F → Option (List ℕ)) (rows : List Row) (request : Request) (exit : ℕ) → AsksSoundness rows request
    → IfCheck request.question (λ strict files. exit ≤ 1
    → AreChecked left (weak_of request.clear_weak) request.past_damage strict files exit)
    → exit ≤ 1
    → AreChecked left (weak_of (has_flag (codes "clear-weak") rows)) (has_flag (codes "past-damage") rows) (has_flag (codes "strict") rows)
    (length (given (codes "IMAGE") rows)) exit
AreChecked-request left rows request exit asks says low =
    let strict = has_flag (codes "strict") rows in
    let files = length (given (codes "IMAGE") rows) in
    subst (λ (clear : Bool). AreChecked left (weak_of clear) (has_flag (codes "past-damage") rows) strict files exit) asks.clear_weak
    (subst (λ (past : Bool). AreChecked left (weak_of request.clear_weak) past strict files exit) asks.past_damage
    (AreChecked-asked left rows request.question (weak_of request.clear_weak) request.past_damage exit asks.question says low))
