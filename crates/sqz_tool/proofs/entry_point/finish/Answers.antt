use Rattle.std.proofs.Common.{rules}
use Rattle.sqz_tool.proofs.entry_point.finish.Goals as goal

pub returns-in-Err-clause-exit : goal.returns-in-Err-clause-exit
returns-in-Err-clause-exit g c = search rules

pub returns-in-Err-clause-line : goal.returns-in-Err-clause-line
returns-in-Err-clause-line g c = search rules
