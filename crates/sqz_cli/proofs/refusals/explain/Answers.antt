use Rattle.std.proofs.Common.{rules}
use Rattle.sqz_cli.proofs.refusals.explain.Goals as goal

pub returns-in_default : goal.returns-in_default
returns-in_default g c = search rules
