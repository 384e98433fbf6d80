use Rattle.std.proofs.Common.{rules}
use Rattle.sqz_marks.proofs.pass.Pass.is_whole.Goals as goal

pub returns : goal.returns
returns c = search rules
