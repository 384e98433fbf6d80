use Rattle.std.proofs.Common.{rules}
use Rattle.sqz_alike.proofs.MatchingLemmas.{IsMatching-none}
use Rattle.sqz_alike.proofs.matching.Matching.new.Goals as goal

pub returns-clause-matching : goal.returns-clause-matching
returns-clause-matching c =
    let new_of = c.in_ok-new_of.ensures.items_if_clones_equal (λ partner same. search rules) in
    let old_of = c.in_ok-old_of.ensures.items_if_clones_equal (λ partner same. search rules) in
    rw (c.new-pairs.ensures.items, new_of, old_of) (IsMatching-none c.args.old c.args.new)
