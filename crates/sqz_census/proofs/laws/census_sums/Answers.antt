use Rattle.sqz_census.proofs.SumLemmas.{census_counts, census_bytes}
use Rattle.sqz_census.proofs.laws.census_sums.Goals as goal

pub returns-clause-objects : goal.returns-clause-objects
returns-clause-objects c = census_counts

pub returns-clause-bytes : goal.returns-clause-bytes
returns-clause-bytes c = census_bytes
