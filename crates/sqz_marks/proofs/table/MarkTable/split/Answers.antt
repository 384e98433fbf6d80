use Rattle.std.proofs.Common.{rules}
use Rattle.sqz_marks.proofs.table.MarkTable.split.Goals as goal

pub returns-clause-kept : goal.returns-clause-kept
returns-clause-kept c = search rules

pub returns-clause-part : goal.returns-clause-part
returns-clause-part c = search rules
