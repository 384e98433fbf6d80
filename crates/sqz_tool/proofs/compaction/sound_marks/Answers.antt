use Rattle.std.proofs.Common.{rules}
use Rattle.sqz_tool.proofs.compaction.sound_marks.Goals as goal

pub returns-in-Some-clause-refused : goal.returns-in-Some-clause-refused
returns-in-Some-clause-refused g c = search rules
