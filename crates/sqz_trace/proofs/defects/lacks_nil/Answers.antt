use Rattle.std.proofs.Common.{rules}
use Rattle.sqz_trace.proofs.defects.lacks_nil.Goals as goal

pub returns-in-Keep : goal.returns-in-Keep
returns-in-Keep c = search rules
