use Rattle.sqz_facts.proofs.AllDefectLemmas.{first_of-defects}
use Rattle.sqz_facts.proofs.laws.first_of_all_defects.Goals as goal

pub returns : goal.returns
returns c = first_of-defects
