use Rattle.sqz_changes.proofs.OwnerLemmas.{one_change}
use Rattle.sqz_changes.proofs.laws.one_change_for_each_owner.Goals as goal

pub returns : goal.returns
returns c = one_change
