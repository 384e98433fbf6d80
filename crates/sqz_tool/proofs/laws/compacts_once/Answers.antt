use Rattle.sqz_tool.proofs.FixedPointLemmas.{IsFixedPoint-accepted}
use Rattle.sqz_tool.proofs.laws.compacts_once.Goals as goal

pub returns : goal.returns
returns c = IsFixedPoint-accepted
