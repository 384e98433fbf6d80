use Rattle.std.proofs.Common.{rules}
use Rattle.sqz_image.proofs.write_whole.write_all.Goals as goal

pub returns-clause-whole : goal.returns-clause-whole
returns-clause-whole g c = search rules
