use Rattle.std.proofs.Common.{rules}
use Rattle.sqz_object.proofs.word.put_word.Goals as goal

pub returns-in-Big-clause-spelled : goal.returns-in-Big-clause-spelled
returns-in-Big-clause-spelled c = search rules

pub returns-in-Big-clause-read_again : goal.returns-in-Big-clause-read_again
returns-in-Big-clause-read_again c = search rules
