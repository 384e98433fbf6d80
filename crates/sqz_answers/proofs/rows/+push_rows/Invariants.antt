use Rattle.std.proofs.Common.{◌-◌, take}
use Rattle.sqz_answers.proofs.RowLemmas.{AddsBelow}
use Rattle.sqz_answers.proofs.rows.+push_rows.Given as goal

abbrev pub decreases-push_rows : goal.decreases-push_rows
decreases-push_rows l = l.tree.now.limits.depth - l.place.depth

abbrev pub invariant-loop-object : goal.invariant-loop-object
invariant-loop-object l = AddsBelow l.tree l.place l.initial.rows.items l.rows.items (take l.object-index l.object-items)
