use Rattle.sqz_facts.proofs.OneSiteLemmas.{one_site}
use Rattle.sqz_facts.proofs.laws.one_site.Goals as goal

pub returns : goal.returns
returns c memory address one other all = one_site memory address all one other
