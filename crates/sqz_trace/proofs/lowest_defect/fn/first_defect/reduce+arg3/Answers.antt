use Rattle.std.proofs.Common.{rules}
use Rattle.sqz_trace.proofs.lowest_defect.fn.first_defect.reduce+arg3.Goals as goal

pub returns : goal.returns
returns c = search rules
