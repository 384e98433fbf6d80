use Rattle.std.proofs.Common.{rules}
use Rattle.sqz_trace.proofs.defects.defect.Goals as goal

pub returns : goal.returns
returns c = search rules
