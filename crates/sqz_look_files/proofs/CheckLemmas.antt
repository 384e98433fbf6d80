-- The exits of files that are checked.
-- Serves `check_one`, `check_all`, `answer` and `answer_each`.
use Rattle.std.proofs.Common.{◌≡◌, ◌≢◌, ◌∙◌, ◌≤◌, ℕ, zero, suc, ◌+◌, max, Bool, true, false, List, [], ◌∷◌, ◌++◌, Option, None, Result, Ok, Err, IfOk}
use Rattle.std.proofs.Common.{refl, sym, subst, inl, inr, arith}
use Rattle.std.specs.Prelude.{All}
use Rattle.std.proofs.lemmas.Bool.{cases_lt}
use Rattle.std.proofs.lemmas.List.{length_push}
use Rattle.std.proofs.lemmas.List.Elements.{All-nil, All-push, All-head, All-tail}
use Rattle.sqz_image.specs.Objects.{Memory, SavedImage}
use Rattle.sqz_trace.specs.declared.weak.Weak.{Weak}
use Rattle.sqz_trace.specs.Faults.{first_fault}
use Rattle.sqz_trace.specs.Reachability.{IsReachability}
use Rattle.sqz_look_files.specs.declared.failure.Failure.{Failure}
use Rattle.sqz_look_files.specs.declared.loading.Loaded.TheVariants as whole_file
use Rattle.sqz_look_files.specs.declared.session.ReadFile.TheVariants.{Image}
use Rattle.sqz_look_files.specs.declared.session.ReadImage.{ReadImage}
use Rattle.sqz_look_files.specs.Damaged.{IsReadAs}
use Rattle.sqz_look_files.specs.Checks.{IsLoaded, IsStrictly}
use Rattle.sqz_look_files.specs.Verdicts.{ReadsUnsound, IsChecked, IsImageExit, IsWorst, EndsChecks, StopsChecks, worst_of}
use Rattle.sqz_look_check.specs.Warned.{HasFindings}
use Rattle.sqz_look_check.specs.declared.read_failure.ReadFailure.{ReadFailure}
use Rattle.sqz_look_files.specs.declared.failure.Failure.TheVariants.{OutOfMemory, NotPrinted, NotRead, NotReadAt, NotThere}
use Rattle.sqz_look_files.specs.Failures.{IsAnswerExit, IsReadFailure, exit_of_failure, failure_of_printing}
use Rattle.sqz_look_view.specs.declared.print_error.PrintError.{PrintError}
use Rattle.sqz_look_view.specs.declared.print_error.PrintError.TheVariants as printing

-- the greatest exit, with one more exit at the end
worst_of-push : (exits : List ℕ) (exit : ℕ) → worst_of (exits ++ exit ∷ []) ≡ max (worst_of exits) exit
worst_of-push [] exit = omega arith
worst_of-push (first ∷ exits) exit = let rest = worst_of-push exits exit in omega arith

module _ (IsExit : ℕ → Type 0) where
  -- there is no file
  pub IsWorst-none : IsWorst IsExit 0 0
  IsWorst-none = record { exits = []; one_each = refl; all = All-nil IsExit; worst = refl }

  -- there is one more file
  pub IsWorst-more : (files exit one : ℕ) → IsWorst IsExit files exit → IsExit one → IsWorst IsExit (files + 1) (max exit one)
  IsWorst-more files exit one are is =
      record {
        exits = are.exits ++ one ∷ [];
        one_each = let same = are.one_each in omega (arith, length_push are.exits one);
        all = All-push IsExit are.exits one are.all is;
        worst = let same = are.worst in omega (arith, worst_of-push are.exits one);
      }

-- of two exits of answers, the greater is one
pub IsAnswerExit-max : (one other : ℕ) → IsAnswerExit one → IsAnswerExit other → IsAnswerExit (max one other)
IsAnswerExit-max one other (low, not_one) (below, not_other) = (
  omega arith,
  λ same. elim (cases_lt one other) [
    | inl lt ↦ not_other (omega arith)
    | inr ge ↦ not_one (omega arith)
  ],
)

module _ {F : Type 0} (left : F → Option (List ℕ)) (weak : Weak) (past strict : Bool) where
  module _ (image : SavedImage) (marks : List Bool) (loaded : IsLoaded left (whole_file.Image image))
      (reachable : ∥ IsReachability image.memory weak marks ∥₁) where
    strictly : (some : Bool) → HasFindings image.memory weak marks some → IsStrictly weak loaded.bytes some
    strictly some has = record { image = image; holds = loaded.held; marks = marks; reachable = reachable; has = has }

    -- a fault of the image
    unsound : first_fault image.memory weak marks ≢ None → ReadsUnsound left weak past
    unsound fault =
        inl (record {
          bytes = loaded.bytes;
          read = loaded.read;
          fact = inl (record { image = image; holds = loaded.held; marks = marks; reachable = reachable; fault = fault });
        })

    -- the exit for an image that was loaded
    IsChecked-loaded : (exit : ℕ) → IsImageExit image.memory weak marks true strict exit → IsChecked left weak past strict exit
    IsChecked-loaded zero is =
        let clean = is.clean.0 refl in
        inl (
          refl,
          record {
            bytes = loaded.bytes;
            read = loaded.read;
            fact = record {
              sound = record { image = image; holds = loaded.held; marks = marks; reachable = reachable; fault = clean.1 };
              no_warning = λ asked.
                  strictly false (subst (HasFindings image.memory weak marks) clean.2 (is.is_warned.asked asked));
            };
          },
        )
    IsChecked-loaded (suc zero) is = at is.warned refl strict refl
      where
        at : (warned : Bool) → is.warned ≡ warned → (asked : Bool) → strict ≡ asked → IsChecked left weak past strict 1
        at true some true asked =
            inr (inl (
              refl,
              inr (
                asked,
                record {
                  bytes = loaded.bytes;
                  read = loaded.read;
                  fact = strictly true (subst (HasFindings image.memory weak marks) some (is.is_warned.asked asked));
                },
              ),
            ))
        at true some false asked = let bad : true ≡ false = sym some ∙ is.is_warned.unasked asked in cc
        at false none asked known =
            inr (inl (refl, inl (unsound (λ sound. let zero_is = is.clean.1 (refl, sound, none) in omega arith))))
    IsChecked-loaded (suc (suc exit)) is = absurd (let low = is.low in omega arith)

  -- the same for its live objects, over the memory and the policy that they are known by
  pub IsChecked-image : (image : SavedImage) (memory : Memory) (policy : Weak) (marks : List Bool) (exit : ℕ)
      → IsLoaded left (whole_file.Image image) → memory ≡ image.memory → policy ≡ weak
      → ∥ IsReachability memory policy marks ∥₁ → IsImageExit memory policy marks true strict exit
      → IsChecked left weak past strict exit
  IsChecked-image image memory policy marks exit loaded same_memory same_policy reachable is =
      let Marked : Memory → Weak → Type 0 = λ m p. ∥ IsReachability m p marks ∥₁ in
      let Says : Memory → Weak → Type 0 = λ m p. IsImageExit m p marks true strict exit in
      IsChecked-loaded image marks loaded
      (subst (Marked image.memory) same_policy (subst (λ (m : Memory). Marked m policy) same_memory reachable))
      exit
      (subst (Says image.memory) same_policy (subst (λ (m : Memory). Says m policy) same_memory is))

  -- the exit for an image that was read, of which something may have been skipped
  pub IsChecked-read : {E : Type 0} (read : ReadImage) (memory : Memory) (policy : Weak) (marks : List Bool) (exit : ℕ) (old new : E)
      → IsReadAs left weak past old new (Image read) → memory ≡ read.image.memory → policy ≡ weak
      → ∥ IsReachability memory policy marks ∥₁ → IsImageExit memory policy marks read.is_whole strict exit
      → IsChecked left weak past strict exit × (exit ≡ 0 → new ≡ old)
  IsChecked-read read memory policy marks exit old new (loaded, damaged) same_memory same_policy reachable is =
      at read.is_whole refl
    where
      at : (whole : Bool) → read.is_whole ≡ whole → IsChecked left weak past strict exit × (exit ≡ 0 → new ≡ old)
      at true whole = (
        IsChecked-image read.image memory policy marks exit (loaded whole).1 same_memory same_policy reachable
            (subst (λ (w : Bool). IsImageExit memory policy marks w strict exit) whole is),
        λ zero. (loaded whole).0,
      )
      at false skipped = (
        inr (inl (
          (let low = is.low in let not_zero : exit ≡ 0 → ⊥ = λ zero. let whole = (is.clean.0 zero).0 in cc in omega (arith, not_zero)),
          inl (inr (damaged skipped)),
        )),
        λ zero. let whole = (is.clean.0 zero).0 in absurd cc,
      )

  -- the exit for a file is one of an answer
  IsAnswerExit-checked : (exit : ℕ) → IsChecked left weak past strict exit → IsAnswerExit exit
  IsAnswerExit-checked exit (inl (same, sound)) = (omega arith, λ two. omega arith)
  IsAnswerExit-checked exit (inr (inl (same, unsound))) = (omega arith, λ two. omega arith)
  IsAnswerExit-checked exit (inr (inr (inl same))) = (omega arith, λ two. omega arith)
  IsAnswerExit-checked exit (inr (inr (inr same))) = (omega arith, λ two. omega arith)

  -- so is the worst of them
  IsAnswerExit-worst : (exits : List ℕ) → All (IsChecked left weak past strict) exits → IsAnswerExit (worst_of exits)
  IsAnswerExit-worst [] checked = (omega arith, λ two. omega arith)
  IsAnswerExit-worst (exit ∷ exits) checked =
      IsAnswerExit-max exit (worst_of exits)
      (IsAnswerExit-checked exit (All-head (IsChecked left weak past strict) exit exits checked))
      (IsAnswerExit-worst exits (All-tail (IsChecked left weak past strict) exit exits checked))

  pub IsAnswerExit-ends : (files : ℕ) (outcome : Result ℕ Failure) → EndsChecks left weak past strict files outcome
      → IfOk outcome IsAnswerExit
  IsAnswerExit-ends files (Ok exit) are =
      subst IsAnswerExit (sym are.worst) (IsAnswerExit-worst are.exits are.all)
  IsAnswerExit-ends files (Err failure) stops = tt

-- a failure to read a file that is not that the file cannot be read
pub StopsChecks-read : (failure : Failure) → IsReadFailure failure → ((why : ReadFailure) → failure ≡ NotRead why → ⊥) → StopsChecks failure
StopsChecks-read OutOfMemory is other = inl refl
StopsChecks-read NotPrinted is other = inr refl
StopsChecks-read (NotRead why) is other = absurd (other why refl)
StopsChecks-read (NotReadAt path why) is other = absurd is
StopsChecks-read (NotThere message) is other = absurd is

-- a failure to print stops a check
pub StopsChecks-printing : (error : PrintError) (failure : Failure) → failure ≡ failure_of_printing error → StopsChecks failure
StopsChecks-printing printing.OutOfMemory failure same = inl same
StopsChecks-printing printing.WriteFailed failure same = inr same

-- the exits of failures: 1, 3 and 4
pub exit_of_failure-range : (failure : Failure) → (1 ≤ exit_of_failure failure) × (exit_of_failure failure ≤ 4) × (exit_of_failure failure ≢ 2)
exit_of_failure-range OutOfMemory = (omega arith, omega arith, λ same. omega arith)
exit_of_failure-range NotPrinted = (omega arith, omega arith, λ same. omega arith)
exit_of_failure-range (NotRead why) = (omega arith, omega arith, λ same. omega arith)
exit_of_failure-range (NotReadAt path why) = (omega arith, omega arith, λ same. omega arith)
exit_of_failure-range (NotThere message) = (omega arith, omega arith, λ same. omega arith)
