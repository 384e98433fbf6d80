use Rattle.std.proofs.Common.{◌≡◌}
use Rattle.std.specs.Prelude.{vec_capacity}
use Rattle.sqz_workers.specs.Gains.{HasGainedSome}
use Rattle.sqz_workers.proofs.remaining.drain.Given as goal

abbrev pub invariant-loop : goal.invariant-loop
invariant-loop l =
    record {
      gained : HasGainedSome l.fn.pass l.pass;
      room : vec_capacity l.worklist ≡ vec_capacity l.fn.worklist;
    }
