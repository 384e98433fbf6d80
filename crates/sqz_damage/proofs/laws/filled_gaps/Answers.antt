use Rattle.sqz_damage.proofs.FillLemmas.{IsPartition-filled}
use Rattle.sqz_damage.proofs.laws.filled_gaps.Goals as goal

pub returns : goal.returns
returns c base words gaps best = IsPartition-filled base words gaps best
