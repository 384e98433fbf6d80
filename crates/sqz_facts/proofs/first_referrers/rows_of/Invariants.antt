use Rattle.sqz_facts.specs.FirstReferrers.{AreRows}
use Rattle.sqz_facts.proofs.first_referrers.rows_of.Given as goal

abbrev pub invariant-loop-row : goal.invariant-loop-row
invariant-loop-row l = AreRows l.count l.row l.objects l.rows.items
