use Rattle.std.proofs.Common.{rules}
use Rattle.sqz_trace.proofs.defects.states_too_many.Goals as goal

pub returns-in-Some : goal.returns-in-Some
returns-in-Some c = search rules
