use Rattle.sqz_changes.proofs.AlikeLemmas.{nothing}
use Rattle.sqz_changes.proofs.laws.nothing_differs_if_alike.Goals as goal

pub returns : goal.returns
returns c = nothing
