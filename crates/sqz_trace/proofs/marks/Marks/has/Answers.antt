use Rattle.std.proofs.Common.{arith}
use Rattle.std.proofs.lemmas.Grind.{common_steps}
use Rattle.sqz_trace.proofs.marks.Marks.has.Goals as goal

pub returns-then-object-len : goal.returns-then-object-len
returns-then-object-len c = grind (arith, common_steps)

pub returns-else-object-len : goal.returns-else-object-len
returns-else-object-len c = grind (arith, common_steps)
