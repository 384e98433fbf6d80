use Rattle.std.proofs.Common.{◌≡◌, ℕ, ◌<◌, true, false}
use Rattle.std.specs.Prelude.{vec_capacity}
use Rattle.sqz_image.specs.Objects.{object_count}
use Rattle.sqz_workers.specs.Gains.{HasGainedSome, IsBlackIfWon, HasBlackenedMore}
use Rattle.sqz_workers.proofs.remaining.sweep.Given as goal

abbrev pub invariant-loop-object : goal.invariant-loop-object
invariant-loop-object l =
    record {
      gained : HasGainedSome l.fn.pass l.pass;
      more : l.found ≡ true → HasBlackenedMore (object_count l.table.heap.memory) l.fn.pass.view l.pass.view;
      scanned : l.found ≡ false → (object : ℕ) → object < l.object → IsBlackIfWon l.pass.view object;
      room : vec_capacity l.worklist ≡ vec_capacity l.fn.worklist;
    }
