use Rattle.std.proofs.Common.{arith}
use Rattle.std.proofs.lemmas.Grind.{common_steps}
use Rattle.sqz_workers.proofs.marked.worker_counts.Goals as goal

pub overflow_sub-rest : goal.overflow_sub-rest
overflow_sub-rest c = grind (arith, common_steps)

pub loop-objects-preserved : goal.loop-objects-preserved
loop-objects-preserved c = grind (arith, common_steps)
