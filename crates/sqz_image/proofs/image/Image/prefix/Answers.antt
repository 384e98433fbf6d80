use Rattle.std.proofs.Common.{rules}
use Rattle.sqz_image.proofs.image.Image.prefix.Goals as goal

pub returns-clause-prefix : goal.returns-clause-prefix
returns-clause-prefix c = search rules
