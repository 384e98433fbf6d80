-- The number of each fault, as in the documentation.
use Rattle.std.specs.Prelude.{ℕ}
use Rattle.sqz_image.specs.declared.fault.Fault.{Fault}
use Rattle.sqz_image.specs.declared.fault.Fault.TheVariants.{TooShort, BadVersion, BadHeaderSize, BadDataSize}
use Rattle.sqz_image.specs.declared.fault.Fault.TheVariants.{BadBase, Truncated, ZeroSize, HeaderMismatch, Overrun}
use Rattle.sqz_image.specs.declared.fault.Fault.TheVariants.{BadSpecialObjects, NoClass, BadMethod, BadContext}
use Rattle.sqz_image.specs.declared.fault.Fault.TheVariants.{BadPointer, OutOfMemory, ReadFailed, WriteFailed}
use Rattle.sqz_image.specs.declared.fault.Fault.TheVariants.{BadWorkers, BadCut, BadWeak, NoNil}

abbrev pub number_of_fault : Fault → ℕ
number_of_fault TooShort = 1
number_of_fault BadVersion = 2
number_of_fault BadHeaderSize = 3
number_of_fault BadDataSize = 4
number_of_fault BadBase = 5
number_of_fault Truncated = 6
number_of_fault (ZeroSize word) = 7
number_of_fault (HeaderMismatch word) = 8
number_of_fault (Overrun word) = 9
number_of_fault BadSpecialObjects = 10
number_of_fault (NoClass address) = 11
number_of_fault (BadMethod address) = 12
number_of_fault (BadContext address) = 13
number_of_fault (BadPointer address slot) = 14
number_of_fault OutOfMemory = 15
number_of_fault ReadFailed = 16
number_of_fault WriteFailed = 17
number_of_fault BadWorkers = 18
number_of_fault BadCut = 19
number_of_fault (BadWeak address) = 20
number_of_fault NoNil = 21
