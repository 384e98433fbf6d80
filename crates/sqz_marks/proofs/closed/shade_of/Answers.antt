use Rattle.std.proofs.Common.{rules}
use Rattle.sqz_marks.proofs.closed.shade_of.Goals as goal

pub returns-in-1 : goal.returns-in-1
returns-in-1 c = search rules
