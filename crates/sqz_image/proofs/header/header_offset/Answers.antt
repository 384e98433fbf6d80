use Rattle.std.proofs.Common.{arith, rules}
use Rattle.std.proofs.lemmas.Grind.{common_steps}
use Rattle.sqz_image.proofs.header.header_offset.Goals as goal

pub returns-in-Some-clause-offset : goal.returns-in-Some-clause-offset
returns-in-Some-clause-offset c = grind (arith, common_steps)

pub returns-in-Some-clause-one_of : goal.returns-in-Some-clause-one_of
returns-in-Some-clause-one_of c = search rules

pub returns-in-None-clause-offset : goal.returns-in-None-clause-offset
returns-in-None-clause-offset c = grind (arith, common_steps)
