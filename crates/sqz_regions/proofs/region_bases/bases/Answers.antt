use Rattle.std.proofs.Common.{arith}
use Rattle.std.proofs.lemmas.Grind.{common_steps}
use Rattle.sqz_regions.proofs.region_bases.bases.Goals as goal

pub loop-words-preserved : goal.loop-words-preserved
loop-words-preserved c = grind (arith, common_steps)
