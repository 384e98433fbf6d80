use Rattle.std.proofs.Common.{◌-◌, ◌*◌, ◌^◌, ◌≤◌}
use Rattle.sqz_workers.specs.Gains.{HasGained}
use Rattle.sqz_workers.proofs.shared_work.SharedWork.run_worker.Given as goal

abbrev pub invariant-loop-turn : goal.invariant-loop-turn
invariant-loop-turn g l =
    record {
      gained : HasGained l.fn.pass l.pass l.won;
      few : l.won ≤ l.turns.turn * 2 ^ 30;
      most : l.turns.most ≤ 2 ^ 33;
      begun : l.turns.turn ≤ l.turns.most;
    }

abbrev pub decreases-loop-turn : goal.decreases-loop-turn
decreases-loop-turn g l = l.turns.most - l.turns.turn
