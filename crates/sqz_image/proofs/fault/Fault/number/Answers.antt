use Rattle.std.proofs.Common.{rules}
use Rattle.sqz_image.proofs.fault.Fault.number.Goals as goal

pub returns-in-NoNil : goal.returns-in-NoNil
returns-in-NoNil c = search rules
