use Rattle.sqz_changes.proofs.OrderLemmas.{quiet-in_order, shown-in_order}
use Rattle.sqz_changes.proofs.laws.firsts_are_in_order.Goals as goal

pub returns-clause-shown : goal.returns-clause-shown
returns-clause-shown c = shown-in_order

pub returns-clause-quiet : goal.returns-clause-quiet
returns-clause-quiet c = quiet-in_order
