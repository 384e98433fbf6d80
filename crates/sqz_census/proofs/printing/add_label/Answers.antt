use Rattle.std.proofs.Common.{rules}
use Rattle.sqz_census.proofs.printing.add_label.Goals as goal

pub returns : goal.returns
returns c = search rules
