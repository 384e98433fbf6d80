use Rattle.sqz_damage.proofs.FitLemmas.{IsLoss-within}
use Rattle.sqz_damage.proofs.laws.loss_within.Goals as goal

pub returns : goal.returns
returns c base words lost place loss = IsLoss-within base words lost place loss
