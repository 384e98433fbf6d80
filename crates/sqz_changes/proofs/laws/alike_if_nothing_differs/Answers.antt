use Rattle.sqz_changes.proofs.LawLemmas.{alike}
use Rattle.sqz_changes.proofs.laws.alike_if_nothing_differs.Goals as goal

pub returns : goal.returns
returns c = alike
