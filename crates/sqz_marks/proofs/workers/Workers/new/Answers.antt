use Rattle.std.proofs.Common.{rules}
use Rattle.sqz_marks.proofs.workers.Workers.new.Goals as goal

pub invariant_of-result : goal.invariant_of-result
invariant_of-result c = search rules

pub returns-clause-exact : goal.returns-clause-exact
returns-clause-exact c = search rules
