use Rattle.std.proofs.Common.{rules}
use Rattle.sqz_marks.proofs.workers.Workers.number.Goals as goal

pub returns-clause-number : goal.returns-clause-number
returns-clause-number c = search rules

pub returns-clause-some : goal.returns-clause-some
returns-clause-some c = search rules
