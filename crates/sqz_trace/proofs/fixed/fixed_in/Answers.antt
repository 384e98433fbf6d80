use Rattle.std.proofs.Common.{rules}
use Rattle.sqz_trace.proofs.fixed.fixed_in.Goals as goal

pub returns : goal.returns
returns c = search rules
