use Rattle.sqz_histogram.specs.Shares.{AreShares}
use Rattle.sqz_histogram.proofs.shares.shares_by_key.Given as goal

abbrev pub invariant-loop-key : goal.invariant-loop-key
invariant-loop-key l = AreShares l.tallies l.key l.shares.items
