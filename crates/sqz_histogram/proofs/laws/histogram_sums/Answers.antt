use Rattle.sqz_histogram.proofs.SumLemmas.{histogram_counts, histogram_bytes}
use Rattle.sqz_histogram.proofs.laws.histogram_sums.Goals as goal

pub returns-clause-objects : goal.returns-clause-objects
returns-clause-objects c = histogram_counts

pub returns-clause-bytes : goal.returns-clause-bytes
returns-clause-bytes c = histogram_bytes
