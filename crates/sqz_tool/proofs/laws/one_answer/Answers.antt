use Rattle.sqz_tool.proofs.Uniqueness.{IsAccepted-unique}
use Rattle.sqz_tool.proofs.laws.one_answer.Goals as goal

pub returns : goal.returns
returns c = IsAccepted-unique
