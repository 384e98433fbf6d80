use Rattle.std.proofs.Common.{refl, arith}
use Rattle.sqz_histogram.proofs.ShareLemmas.{IsShareOf-key, AreShares-more_yes, AreShares-more_no}
use Rattle.sqz_histogram.proofs.shares.shares_by_key.Goals as goal
use Rattle.sqz_histogram.proofs.shares.shares_by_key.Goals.{then-tally-gt0+in_ok-push, else-tally-gt0}

pub loop-key-preserved : goal.loop-key-preserved
loop-key-preserved c =
    let tallies = c.args.tallies.now in
    let key = c.loop-key.key in
    let so_far = c.loop-key.invariant in
    elim c.if-tally-gt0.branch [
      | then-tally-gt0+in_ok-push w ↦
          let is = IsShareOf-key tallies key _ c.loop-key-test.true c.requires w.if-tally-gt0.true refl in
          rw (w.shares-is, w.in_ok-push.ensures.items)
          (AreShares-more_yes tallies key c.loop-key.shares.items so_far _ refl is)
      | else-tally-gt0 w ↦
          rw w.shares-is (AreShares-more_no tallies key c.loop-key.shares.items so_far (omega (arith, w.if-tally-gt0.false)))
    ]
