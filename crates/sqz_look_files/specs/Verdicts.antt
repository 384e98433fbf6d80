-- The exits of files that are checked.
use Rattle.std.specs.Prelude.{◌≡◌, ◌⊎◌, ◌↔◌, ◌≤◌, ℕ, max, Bool, true, false, List, [], ◌∷◌, length, All, Option, None, Result, Ok, Err}
use Rattle.sqz_image.specs.Objects.{Memory}
use Rattle.sqz_trace.specs.declared.weak.Weak.{Weak}
use Rattle.sqz_trace.specs.Faults.{first_fault}
use Rattle.sqz_look_check.specs.Warned.{IsWarned}
use Rattle.sqz_look_files.specs.declared.failure.Failure.{Failure}
use Rattle.sqz_look_files.specs.declared.failure.Failure.TheVariants.{OutOfMemory, NotPrinted}
use Rattle.sqz_look_files.specs.Checks.{ReadsSome, IsClean, IsStrictly, IsUnsound}
use Rattle.sqz_look_files.specs.Damaged.{ReadsDamaged}

-- a file was read that is not sound; one that is damaged is not, if damage is looked for
abbrev pub ReadsUnsound : {F : Type 0} → (F → Option (List ℕ)) → Weak → Bool → Type 0
ReadsUnsound left weak past = ReadsSome left (IsUnsound weak) ⊎ ReadsDamaged left weak past

-- a file was read that is not sound, or about which there are warnings if these are asked for
abbrev pub ReadsFaulty : {F : Type 0} → (F → Option (List ℕ)) → Weak → Bool → Bool → Type 0
ReadsFaulty left weak past strict =
    ReadsUnsound left weak past ⊎ ((strict ≡ true) × ReadsSome left (λ bytes. IsStrictly weak bytes true))

-- the exit for one file: 0 if it was read and is sound, and without warnings if these are asked
-- for, 1 if it was read and is not, 3 if it could not be read, and 4 if memory ran out for it
abbrev pub IsChecked : {F : Type 0} → (F → Option (List ℕ)) → Weak → Bool → Bool → ℕ → Type 0
IsChecked left weak past strict exit =
    ((exit ≡ 0) × ReadsSome left (IsClean weak strict)) ⊎ ((exit ≡ 1) × ReadsFaulty left weak past strict)
    ⊎ (exit ≡ 3) ⊎ (exit ≡ 4)

-- the exit for an image: 0 exactly if nothing of its file was skipped, it has no fault and, if
-- warnings are asked for, there are none
pub record IsImageExit (memory : Memory) (weak : Weak) (marks : List Bool) (whole strict : Bool) (exit : ℕ) : Type 0 where
  pub warned : Bool
  pub is_warned : IsWarned memory weak marks strict warned
  pub low : exit ≤ 1
  pub clean : (exit ≡ 0) ↔ ((whole ≡ true) × (first_fault memory weak marks ≡ None) × (warned ≡ false))

-- the greatest of some exits, and 0 of none
abbrev pub worst_of : List ℕ → ℕ
worst_of [] = 0
worst_of (exit ∷ exits) = max exit (worst_of exits)

-- each file has an exit, about which a fact is true, in order, and this is the worst of them
pub record IsWorst (IsExit : ℕ → Type 0) (files exit : ℕ) : Type 0 where
  pub exits : List ℕ
  pub one_each : length exits ≡ files
  pub all : All IsExit exits
  pub worst : exit ≡ worst_of exits

-- the worst exit of files that are checked: 0 exactly if each file was read and is sound, and without
-- warnings if these are asked for
abbrev pub AreChecked : {F : Type 0} → (F → Option (List ℕ)) → Weak → Bool → Bool → ℕ → ℕ → Type 0
AreChecked left weak past strict files exit = IsWorst (IsChecked left weak past strict) files exit

-- the failures for which there is no answer about other files: no memory even to say so, and of the
-- output
abbrev pub StopsChecks : Failure → Type 0
StopsChecks failure = (failure ≡ OutOfMemory) ⊎ (failure ≡ NotPrinted)

-- how a question about each of this number of files ends: with the worst of their exits, or with such a
-- failure
abbrev pub EndsWorst : (ℕ → Type 0) → ℕ → Result ℕ Failure → Type 0
EndsWorst IsExit files (Ok exit) = IsWorst IsExit files exit
EndsWorst IsExit files (Err failure) = StopsChecks failure

-- how a check of this number of files ends
abbrev pub EndsChecks : {F : Type 0} → (F → Option (List ℕ)) → Weak → Bool → Bool → ℕ → Result ℕ Failure → Type 0
EndsChecks left weak past strict files outcome = EndsWorst (IsChecked left weak past strict) files outcome
