use Rattle.std.proofs.Common.{rules}
use Rattle.std.proofs.lemmas.List.Sorted.{answers_always}
use Rattle.sqz_histogram.proofs.ShareLemmas.{sort_key, AreSharesInOrder-sorted}
use Rattle.sqz_histogram.proofs.shares.shares_of.Goals as goal

pub returns : goal.returns
returns c =
    let done = c.sort_unstable_by_key.ensures in
    AreSharesInOrder-sorted c.args.tallies.now c.in_ok-shares.shares.items c.sort_unstable_by_key.new.self.items
    c.in_ok-shares.ensures done.permutation (done.sorted sort_key (answers_always _ _ _ (λ f a r g h. search rules)))
