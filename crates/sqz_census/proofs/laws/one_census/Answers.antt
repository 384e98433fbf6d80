use Rattle.sqz_census.proofs.Uniqueness.{IsCensus-unique}
use Rattle.sqz_census.proofs.laws.one_census.Goals as goal

pub returns : goal.returns
returns c = IsCensus-unique
