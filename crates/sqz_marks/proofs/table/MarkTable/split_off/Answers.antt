use Rattle.std.proofs.Common.{rules}
use Rattle.sqz_marks.proofs.table.MarkTable.split_off.Goals as goal

pub invariant_of-pass : goal.invariant_of-pass
invariant_of-pass c = search rules
