-- Why a question has no answer, and the exit codes.
use Rattle.std.specs.Prelude.{◌≢◌, ◌≤◌, ℕ, Result, Ok, Err}
use Rattle.sqz_look_view.specs.declared.print_error.PrintError.{PrintError}
use Rattle.sqz_look_view.specs.declared.print_error.PrintError.TheVariants as printing
use Rattle.sqz_look_files.specs.declared.failure.Failure.{Failure}
use Rattle.sqz_look_files.specs.declared.failure.Failure.TheVariants.{OutOfMemory, NotPrinted, NotRead, NotReadAt, NotThere}

-- 4 if out of memory, 3 if the answer could not be printed or a file not be read, and 1 if what is
-- asked about is not there
abbrev pub exit_of_failure : Failure → ℕ
exit_of_failure OutOfMemory = 4
exit_of_failure NotPrinted = 3
exit_of_failure (NotRead why) = 3
exit_of_failure (NotReadAt path why) = 3
exit_of_failure (NotThere message) = 1

-- the exit of an answer, or that of the failure in its place
abbrev pub exit_of_outcome : Result ℕ Failure → ℕ
exit_of_outcome (Ok exit) = exit
exit_of_outcome (Err failure) = exit_of_failure failure

-- the failure for which a row is not printed
abbrev pub failure_of_printing : PrintError → Failure
failure_of_printing printing.OutOfMemory = OutOfMemory
failure_of_printing printing.WriteFailed = NotPrinted

-- the exits of answers: all but that of wrong words
abbrev pub IsAnswerExit : ℕ → Type 0
IsAnswerExit exit = (exit ≤ 4) × (exit ≢ 2)

-- the failures of reading a file
abbrev pub IsReadFailure : Failure → Type 0
IsReadFailure OutOfMemory = Unit {0}
IsReadFailure NotPrinted = Unit {0}
IsReadFailure (NotRead why) = Unit {0}
IsReadFailure (NotReadAt path why) = ⊥
IsReadFailure (NotThere message) = ⊥
