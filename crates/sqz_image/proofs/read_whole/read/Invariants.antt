use Rattle.std.proofs.Common.{◌≡◌, ◌-◌, length}
use Rattle.sqz_image.proofs.ReadingLoop.{HasRead}
use Rattle.sqz_image.proofs.read_whole.read.Given as goal

abbrev pub invariant-loop : goal.invariant-loop
invariant-loop g l =
    record {
      has_read : HasRead (g.R.Source.state l.initial.source) (g.R.Source.state l.source) l.file.items (l.counter - 1);
      room : length l.piece ≡ 65536;
    }
