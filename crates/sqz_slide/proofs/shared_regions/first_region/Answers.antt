use Rattle.std.proofs.Common.{rules}
use Rattle.sqz_slide.proofs.shared_regions.first_region.Goals as goal

pub returns : goal.returns
returns c = search rules
