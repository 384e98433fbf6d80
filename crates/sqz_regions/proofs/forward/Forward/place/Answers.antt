use Rattle.std.proofs.Common.{arith}
use Rattle.std.proofs.lemmas.Grind.{common_steps}
use Rattle.sqz_regions.proofs.forward.Forward.place.Goals as goal

pub returns-then-place-clause-place : goal.returns-then-place-clause-place
returns-then-place-clause-place c = grind (arith, common_steps)

pub returns-else-place-clause-place : goal.returns-else-place-clause-place
returns-else-place-clause-place c = grind (arith, common_steps)
