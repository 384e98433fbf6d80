use Rattle.std.proofs.Common.{[], map}
use Rattle.sqz_damage.specs.Filled.{filled_part}
use Rattle.sqz_damage.proofs.FillLemmas.{IsPartition-filled}
use Rattle.sqz_damage.proofs.laws.words_without_gaps.Goals as goal

pub returns : goal.returns
returns c base words best = (map filled_part best.third, IsPartition-filled base words [] best)
