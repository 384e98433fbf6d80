use Rattle.std.proofs.Common.{◌-◌}
use Rattle.sqz_workers.proofs.locked.LockedWork.run_worker.Given as goal

abbrev pub decreases-loop-turn : goal.decreases-loop-turn
decreases-loop-turn g l = l.turns.most - l.turns.turn
