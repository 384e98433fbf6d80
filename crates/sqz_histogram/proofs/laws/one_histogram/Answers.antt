use Rattle.sqz_histogram.proofs.Uniqueness.{IsHistogram-unique}
use Rattle.sqz_histogram.proofs.laws.one_histogram.Goals as goal

pub returns : goal.returns
returns c = IsHistogram-unique
