use Rattle.sqz_damage.proofs.FillLemmas.{AreGapsIn-best}
use Rattle.sqz_damage.proofs.laws.best_gaps.Goals as goal

pub returns : goal.returns
returns c base words gaps best = AreGapsIn-best base words gaps best
