use Rattle.std.proofs.Common.{rules}
use Rattle.sqz_marks.proofs.pass.Pass.weight.Goals as goal

pub returns-clause-weight : goal.returns-clause-weight
returns-clause-weight c = search rules
