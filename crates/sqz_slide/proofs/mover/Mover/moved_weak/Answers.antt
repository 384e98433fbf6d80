use Rattle.std.proofs.Common.{rules}
use Rattle.sqz_slide.proofs.mover.Mover.moved_weak.Goals as goal

pub returns : goal.returns
returns c = search rules
