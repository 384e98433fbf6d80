-- The exit codes of the programs.
use Rattle.std.specs.Prelude.{◌≡◌, ◌⊎◌, ℕ, ◌==◌, ◌||◌, if◌then◌else◌, List}
use Rattle.clap.specs.Words.{IsAmong}
use Rattle.clap.specs.declared.error.kind.ErrorKind.{ErrorKind}
use Rattle.clap.specs.declared.error.kind.ErrorKind.TheVariants.{DisplayHelp, DisplayVersion, OutOfMemory}
use Rattle.sqz_image.specs.declared.fault.Fault.{Fault}
use Rattle.sqz_image.specs.Numbers.{number_of_fault}

-- 4 if out of memory, 3 if a device failed, 2 if an argument is wrong, and 1 if the image is
abbrev pub exit_of_number : ℕ → ℕ
exit_of_number number =
    if number == 15 then 4
    else (if number == 16 || number == 17 then 3
    else (if number == 18 || number == 19 then 2
    else 1))

abbrev pub exit_of : Fault → ℕ
exit_of fault = exit_of_number (number_of_fault fault)

-- the exit code if the command line gave no arguments, for this reason
abbrev pub exit_of_kind : ErrorKind → ℕ
exit_of_kind OutOfMemory = 4
exit_of_kind DisplayHelp = 0
exit_of_kind DisplayVersion = 0
exit_of_kind _ = 2

-- an exit code for one of these reasons, or for out of memory
abbrev pub IsExitBy : List ErrorKind → ℕ → Type 0
IsExitBy kinds exit = (exit ≡ 4) ⊎ ((kind : ErrorKind) × IsAmong kind kinds × (exit ≡ exit_of_kind kind))
