use Rattle.sqz_facts.proofs.HeldLemmas.{one_held}
use Rattle.sqz_facts.proofs.laws.one_held.Goals as goal

pub returns : goal.returns
returns c memory object slot one other = one_held memory object slot one other
