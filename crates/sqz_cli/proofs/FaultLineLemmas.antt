-- The numbers of faults as they are printed.
-- Serves `fault_line::fault_line`.
use Rattle.std.proofs.Common.{◌≡◌, refl}
use Rattle.std.specs.Prelude.{decimal}
use Rattle.std.specs.Fmt.{digits}
use Rattle.sqz_image.specs.declared.fault.Fault.{Fault}
use Rattle.sqz_image.specs.declared.fault.Fault.TheVariants.{TooShort, BadVersion, BadHeaderSize, BadDataSize}
use Rattle.sqz_image.specs.declared.fault.Fault.TheVariants.{BadBase, Truncated, ZeroSize, HeaderMismatch, Overrun}
use Rattle.sqz_image.specs.declared.fault.Fault.TheVariants.{BadSpecialObjects, NoClass, BadMethod, BadContext}
use Rattle.sqz_image.specs.declared.fault.Fault.TheVariants.{BadPointer, OutOfMemory, ReadFailed, WriteFailed}
use Rattle.sqz_image.specs.declared.fault.Fault.TheVariants.{BadWorkers, BadCut, BadWeak, NoNil}
use Rattle.sqz_image.specs.Numbers.{number_of_fault}
use Rattle.sqz_cli.specs.FaultTexts.{two_digits}

pub decimal-number_of_fault : (fault : Fault) → decimal (number_of_fault fault) ≡ two_digits (number_of_fault fault)
unfolding digits
decimal-number_of_fault TooShort = refl
decimal-number_of_fault BadVersion = refl
decimal-number_of_fault BadHeaderSize = refl
decimal-number_of_fault BadDataSize = refl
decimal-number_of_fault BadBase = refl
decimal-number_of_fault Truncated = refl
decimal-number_of_fault (ZeroSize word) = refl
decimal-number_of_fault (HeaderMismatch word) = refl
decimal-number_of_fault (Overrun word) = refl
decimal-number_of_fault BadSpecialObjects = refl
decimal-number_of_fault (NoClass address) = refl
decimal-number_of_fault (BadMethod address) = refl
decimal-number_of_fault (BadContext address) = refl
decimal-number_of_fault (BadPointer address slot) = refl
decimal-number_of_fault OutOfMemory = refl
decimal-number_of_fault ReadFailed = refl
decimal-number_of_fault WriteFailed = refl
decimal-number_of_fault BadWorkers = refl
decimal-number_of_fault BadCut = refl
decimal-number_of_fault (BadWeak address) = refl
decimal-number_of_fault NoNil = refl
