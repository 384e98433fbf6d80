use Rattle.std.proofs.Common.{rules}
use Rattle.sqz_cli.proofs.printing.TextSinkWrite.write_str.Goals as goal

pub returns-clause-ok : goal.returns-clause-ok
returns-clause-ok g c = search rules

pub returns-clause-stopped : goal.returns-clause-stopped
returns-clause-stopped g c = search rules
