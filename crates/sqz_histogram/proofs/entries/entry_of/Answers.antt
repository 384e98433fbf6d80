use Rattle.std.proofs.Common.{rules}
use Rattle.sqz_histogram.proofs.entries.entry_of.Goals as goal

pub returns-in-Some : goal.returns-in-Some
returns-in-Some c = search rules

pub returns-in-None : goal.returns-in-None
returns-in-None c = search rules
