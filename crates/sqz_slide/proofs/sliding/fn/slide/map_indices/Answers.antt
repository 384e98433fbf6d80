use Rattle.std.proofs.Common.{rules}
use Rattle.sqz_slide.proofs.sliding.fn.slide.map_indices.Goals as goal

pub returns : goal.returns
returns g c = search rules
