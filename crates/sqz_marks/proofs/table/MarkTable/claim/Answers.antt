use Rattle.std.proofs.Common.{rules}
use Rattle.sqz_marks.proofs.table.MarkTable.claim.Goals as goal

pub returns-clause-claim : goal.returns-clause-claim
returns-clause-claim c = search rules
