use Rattle.std.proofs.Common.{rules}
use Rattle.sqz_object.proofs.bit_field.BitField.get.Goals as goal

pub returns : goal.returns
returns c = search rules
