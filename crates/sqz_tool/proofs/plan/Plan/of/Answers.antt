use Rattle.std.proofs.Common.{rules}
use Rattle.sqz_tool.proofs.plan.Plan.of.Goals as goal

pub returns-clause-weak : goal.returns-clause-weak
returns-clause-weak c = search rules
