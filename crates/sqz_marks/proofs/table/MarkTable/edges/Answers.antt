use Rattle.std.proofs.Common.{rules}
use Rattle.sqz_marks.proofs.table.MarkTable.edges.Goals as goal

pub returns : goal.returns
returns c = search rules
