use Rattle.std.proofs.Common.{◌≡◌, ◌≤◌, length}
use Rattle.sqz_workers.specs.Gains.{HasGained}
use Rattle.sqz_workers.proofs.GainLemmas.{HasSeenAmong}
use Rattle.sqz_workers.proofs.scanning.scan_object.Given as goal

abbrev pub invariant-loop-slot : goal.invariant-loop-slot
invariant-loop-slot g l =
    record {
      gained : HasGained l.fn.pass l.pass l.won;
      few : l.won ≤ length l.yielded;
      seen : HasSeenAmong l.edges l.yielded l.pass.view;
      room : g.L.Worklist.room l.worklist ≡ g.L.Worklist.room l.fn.worklist;
    }
