-- What the exit of a comparison says.
-- Serves `compare` and what it calls, `printed` and `answer_request`.
use Rattle.std.proofs.Common.{◌≡◌, ◌≢◌, ◌⊎◌, ◌∙◌, ◌≤◌, ℕ, Bool, true, false, List, Option, None, Result, Ok, Err, IfOk}
use Rattle.std.proofs.Common.{codes, refl, sym, subst, inl, inr, arith}
use Rattle.clap.specs.Words.{Row}
use Rattle.sqz_image.specs.Objects.{Memory, SavedImage}
use Rattle.sqz_trace.specs.declared.live_objects.Live.{Live}
use Rattle.sqz_trace.specs.declared.weak.Weak.{Weak}
use Rattle.sqz_trace.specs.WeakSlots.{weak_of}
use Rattle.sqz_trace.specs.Faults.{first_fault}
use Rattle.sqz_trace.specs.Reachability.{IsReachability}
use Rattle.sqz_alike.specs.Seen.{seen}
use Rattle.sqz_look_view.specs.declared.print_error.PrintError.{PrintError}
use Rattle.sqz_look_view.specs.declared.print_error.PrintError.TheVariants as printing
use Rattle.sqz_look_args.specs.declared.question.Question.{Question}
use Rattle.sqz_look_args.specs.declared.question.Question.TheVariants.{Diff}
use Rattle.sqz_look_args.specs.declared.requests.Request.{Request}
use Rattle.sqz_look_args.specs.Requests.{AsksChanges, IsDiffOf, has_flag}
use Rattle.sqz_look_files.specs.declared.failure.Failure.{Failure}
use Rattle.sqz_look_files.specs.declared.failure.Failure.TheVariants.{OutOfMemory, NotPrinted, NotRead, NotReadAt, NotThere}
use Rattle.sqz_look_files.specs.declared.session.ReadFile.TheVariants as read
use Rattle.sqz_look_files.specs.declared.session.ReadImage.{ReadImage}
use Rattle.sqz_look_files.specs.Damaged.{IsReadAs, IsReadImage}
use Rattle.sqz_look_files.specs.Failures.{exit_of_outcome, failure_of_printing}
use Rattle.sqz_look_files.specs.Warnings.{IsSilent}
use Rattle.sqz_look_files.proofs.WarningLemmas.{IsSilent-damage, IsSilent-then, IsSilent-warned}
use Rattle.sqz_look_cli.specs.Comparison.{AreCompared, EndsComparison, HasFault, IfDiff, IfNotThere, IsAlikeness, IsCompared, IsSeenAs}
use Rattle.sqz_look_cli.specs.Comparison.{ReadsSeen}

-- what cannot be printed is there
pub IfNotThere-printing : (P : Type 0) (error : PrintError) → IfNotThere (failure_of_printing error) P
IfNotThere-printing P printing.OutOfMemory = tt
IfNotThere-printing P printing.WriteFailed = tt

-- a fact of a comparison follows from another one
IfDiff-weaker : (question : Question) (P Q : Type 0) → (P → Q) → IfDiff question P → IfDiff question Q
IfDiff-weaker (Diff old new) P Q weaker holds = weaker holds
IfDiff-weaker _ P Q weaker holds = tt

-- the live objects of an image are seen so
pub IsSeenAs-live : (weak : Weak) (image : SavedImage) (live : Live) → live.graph.heap.now ≡ image.memory → live.graph.weak ≡ weak
    → ∥ IsReachability live.graph.heap.now live.graph.weak live.marks ∥₁ → IsSeenAs weak image (seen live)
IsSeenAs-live weak image live same_memory same_weak reachable =
    let Marked : Memory → Weak → Type 0 = λ m p. ∥ IsReachability m p live.marks ∥₁ in
    record {
      same_memory = same_memory;
      same_weak = same_weak;
      reachable = subst (Marked image.memory) same_weak (subst (λ (m : Memory). Marked m live.graph.weak) same_memory reachable);
    }

-- an image of which a warning was printed has a fault
pub HasFault-warned : {E : Type 0} (weak : Weak) (image : SavedImage) (memory : Memory) (policy : Weak) (marks : List Bool) (old new : E)
    → memory ≡ image.memory → policy ≡ weak → ∥ IsReachability memory policy marks ∥₁
    → (new ≡ old) ⊎ (first_fault memory policy marks ≢ None) → (new ≡ old) ⊎ HasFault weak image
HasFault-warned weak image memory policy marks old new same_memory same_weak reachable (inl same) = inl same
HasFault-warned weak image memory policy marks old new same_memory same_weak reachable (inr faulty) =
    let Marked : Memory → Weak → Type 0 = λ m p. ∥ IsReachability m p marks ∥₁ in
    let Says : Memory → Weak → Type 0 = λ m p. first_fault m p marks ≢ None in
    inr (record {
      marks = marks;
      reachable = subst (Marked image.memory) same_weak (subst (λ (m : Memory). Marked m policy) same_memory reachable);
      fault = subst (Says image.memory) same_weak (subst (λ (m : Memory). Says m policy) same_memory faulty);
    })

-- one warning after another
pub HasFault-then : {E : Type 0} (weak : Weak) (old_image new_image : SavedImage) (old mid new : E)
    → (mid ≡ old) ⊎ HasFault weak old_image → (new ≡ mid) ⊎ HasFault weak new_image
    → (new ≡ old) ⊎ HasFault weak old_image ⊎ HasFault weak new_image
HasFault-then weak old_image new_image old mid new (inl same) (inl then) = inl (then ∙ same)
HasFault-then weak old_image new_image old mid new (inl same) (inr fault) = inr (inr fault)
HasFault-then weak old_image new_image old mid new (inr fault) later = inr (inl fault)

-- what holds of every outcome holds of each
pub IfOk-always : {T E : Type 0} (P : Type 0) (outcome : Result T E) → P → IfOk outcome (λ value. P)
IfOk-always P (Ok value) holds = holds
IfOk-always P (Err error) holds = tt

module _ {F : Type 0} (left : F → Option (List ℕ)) (weak : Weak) (past : Bool) where
  -- the exit of two images that were read
  module _ (old new : ReadImage) (old_read : IsReadImage left weak past (read.Image old)) (new_read : IsReadImage left weak past (read.Image new))
      (is_alike : Bool) (says : IsAlikeness weak old.image new.image is_alike) where
    old_seen : ReadsSeen left weak past says.old
    old_seen = record { image = old.image; read = old_read; is_seen = says.old_is }

    new_seen : ReadsSeen left weak past says.new
    new_seen = record { image = new.image; read = new_read; is_seen = says.new_is }

    pub AreCompared-alike : is_alike ≡ true → AreCompared left weak past 0
    AreCompared-alike same = record {
      old = says.old;
      new = says.new;
      old_read = old_seen;
      new_read = new_seen;
      low = omega arith;
      alike = (λ zero. says.alike.0 same, λ alike. refl);
    }

    pub AreCompared-other : is_alike ≡ false → AreCompared left weak past 1
    AreCompared-other other = record {
      old = says.old;
      new = says.new;
      old_read = old_seen;
      new_read = new_seen;
      low = omega arith;
      alike = (λ zero. absurd (omega (arith, zero)), λ alike. let same = says.alike.1 alike in cc);
    }

  -- what was printed of two images that were read
  pub IsSilent-compared : {E : Type 0} (old_image new_image : ReadImage) (old mid before after : E)
      → IsReadAs left weak past old mid (read.Image old_image) → IsReadAs left weak past mid before (read.Image new_image)
      → (after ≡ before) ⊎ HasFault weak old_image.image ⊎ HasFault weak new_image.image → IsSilent left weak past old after
  IsSilent-compared old_image new_image old mid before after old_read new_read said =
      IsSilent-then left weak past old before after
      (IsSilent-then left weak past old mid before (IsSilent-damage left weak past old_image old mid old_read)
      (IsSilent-damage left weak past new_image mid before new_read))
      (elim said [
        | inl same ↦ inl same
        | inr (inl fault) ↦
            IsSilent-warned left weak past old_image old_image.image.memory weak fault.marks old mid before after old_read refl refl
            fault.reachable (inr fault.fault)
        | inr (inr fault) ↦
            IsSilent-warned left weak past new_image new_image.image.memory weak fault.marks mid before before after new_read refl refl
            fault.reachable (inr fault.fault)
      ])

  -- exits 0 and 1 of a comparison are those of its files
  IsCompared-ends : (outcome : Result ℕ Failure) → EndsComparison left weak past outcome → exit_of_outcome outcome ≤ 1
      → IsCompared left weak past (exit_of_outcome outcome)
  IsCompared-ends (Ok exit) ends low = inl ends.compared
  IsCompared-ends (Err OutOfMemory) ends low = absurd (omega arith)
  IsCompared-ends (Err NotPrinted) ends low = absurd (omega arith)
  IsCompared-ends (Err (NotRead why)) ends low = absurd (omega arith)
  IsCompared-ends (Err (NotReadAt path why)) ends low = absurd (omega arith)
  IsCompared-ends (Err (NotThere message)) ends low = inr (refl, ends.not_there)

  pub compared_at_one : (question : Question) (outcome : Result ℕ Failure) (exit : ℕ) → exit ≡ exit_of_outcome outcome
      → IfDiff question (EndsComparison left weak past outcome)
      → IfDiff question (exit ≤ 1 → IsCompared left weak past exit)
  compared_at_one question outcome exit same = IfDiff-weaker question _ _ (λ ends low.
      subst (λ (e : ℕ). IsCompared left weak past e) (sym same)
      (IsCompared-ends outcome ends (subst (λ (e : ℕ). e ≤ 1) same low)))

  -- the outcome after the rest of the answer was written, or could not be written
  pub comparison_passed : (question : Question) (answered outcome : Result ℕ Failure)
      → (outcome ≡ answered) ⊎ (outcome ≡ Err NotPrinted)
      → IfDiff question (EndsComparison left weak past answered) → IfDiff question (EndsComparison left weak past outcome)
  comparison_passed question answered outcome passed = IfDiff-weaker question _ _ (λ ends. elim passed [
    | inl same ↦ subst (λ (r : Result ℕ Failure). EndsComparison left weak past r) (sym same) ends
    | inr same ↦
        subst (λ (r : Result ℕ Failure). EndsComparison left weak past r) (sym same) (record { compared = tt; not_there = tt })
  ])

-- the question is what words with the subcommand `diff` ask
IfDiff-asked : (rows : List Row) (question : Question) (P : Type 0) → IsDiffOf rows question → IfDiff question P → P
IfDiff-asked rows (Diff old new) P is holds = holds
IfDiff-asked rows _ P is holds = absurd is

-- the exit of a request, by the values of these words
pub IsCompared-asked : {F : Type 0} (left : F → Option (List ℕ)) (rows : List Row) (request : Request) (exit : ℕ)
    → AsksChanges rows request
    → IfDiff request.question (exit ≤ 1 → IsCompared left (weak_of request.clear_weak) request.past_damage exit)
    → exit ≤ 1 → IsCompared left (weak_of (has_flag (codes "clear-weak") rows)) (has_flag (codes "past-damage") rows) exit
IsCompared-asked left rows request exit asks says low =
    subst (λ (clear : Bool). IsCompared left (weak_of clear) (has_flag (codes "past-damage") rows) exit) asks.clear_weak
    (subst (λ (past : Bool). IsCompared left (weak_of request.clear_weak) past exit) asks.past_damage
    (IfDiff-asked rows request.question _ asks.question says low))
