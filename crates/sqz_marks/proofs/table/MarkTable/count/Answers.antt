use Rattle.std.proofs.Common.{rules}
use Rattle.sqz_marks.proofs.table.MarkTable.count.Goals as goal

pub grow-requires-clause-region : goal.grow-requires-clause-region
grow-requires-clause-region c = search rules
