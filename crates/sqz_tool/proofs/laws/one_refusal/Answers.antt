use Rattle.sqz_tool.proofs.Uniqueness.{IsRefused-unique, IsRefused-not_accepted}
use Rattle.sqz_tool.proofs.laws.one_refusal.Goals as goal

pub returns-clause-one : goal.returns-clause-one
returns-clause-one c weak file = IsRefused-unique file weak

pub returns-clause-not_accepted : goal.returns-clause-not_accepted
returns-clause-not_accepted c weak file = IsRefused-not_accepted file weak
