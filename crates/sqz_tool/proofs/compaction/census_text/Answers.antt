use Rattle.std.proofs.Common.{rules}
use Rattle.sqz_tool.proofs.compaction.census_text.Goals as goal

pub returns-clause-text : goal.returns-clause-text
returns-clause-text g c = search rules
