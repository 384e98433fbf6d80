use Rattle.std.proofs.Common.{rules}
use Rattle.sqz_cli.proofs.refusals.refuse.Goals as goal

pub returns-clause-line : goal.returns-clause-line
returns-clause-line g c = search rules
