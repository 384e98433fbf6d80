use Rattle.std.proofs.Common.{rules}
use Rattle.sqz_image.proofs.image.Image.renewed_header.Goals as goal

pub returns : goal.returns
returns c = search rules
