use Rattle.std.proofs.Common.{arith}
use Rattle.sqz_facts.proofs.FirstReferrerLemmas.{AreRows-set, AreRows-skip}
use Rattle.sqz_facts.proofs.first_referrers.rows_of.Goals as goal
use Rattle.sqz_facts.proofs.first_referrers.rows_of.Goals.{then-object-count, else-object-count}

pub loop-row-preserved : goal.loop-row-preserved
loop-row-preserved c =
    let objects = c.args.objects.now in
    let row = c.loop-row.row in
    let rows = c.loop-row.rows.items in
    elim c.if-object-count.branch [
      | then-object-count w ↦ rw w.rows-is (AreRows-set c.args.count row objects rows c.loop-row.invariant w.if-object-count.true)
      | else-object-count w ↦
          rw w.rows-is
          (AreRows-skip c.args.count row objects rows c.loop-row.invariant (λ inside. omega (arith, inside, w.if-object-count.false)))
    ]
