use Rattle.std.proofs.Common.{◌≡◌}
use Rattle.std.specs.Prelude.{vec_capacity}
use Rattle.sqz_image.specs.Objects.{object_count}
use Rattle.sqz_workers.specs.Gains.{HasGainedSome}
use Rattle.sqz_workers.proofs.RemainingLemmas.{unblackened}
use Rattle.sqz_workers.proofs.remaining.scan_remaining.Given as goal

abbrev pub invariant-loop : goal.invariant-loop
invariant-loop l =
    record {
      gained : HasGainedSome l.fn.pass l.pass;
      room : vec_capacity l.worklist ≡ vec_capacity l.fn.worklist;
    }

abbrev pub decreases-loop : goal.decreases-loop
decreases-loop l = unblackened l.pass.view (object_count l.table.heap.memory)
