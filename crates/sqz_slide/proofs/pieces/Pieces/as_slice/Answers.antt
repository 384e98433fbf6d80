use Rattle.std.proofs.Common.{rules}
use Rattle.sqz_slide.proofs.pieces.Pieces.as_slice.Goals as goal

pub returns : goal.returns
returns c = search rules
