use Rattle.std.proofs.Common.{rules}
use Rattle.sqz_changes.proofs.TallyLemmas.{IsTally-none}
use Rattle.sqz_changes.proofs.tally.Tally.new.Goals as goal

pub returns-clause-tally : goal.returns-clause-tally
returns-clause-tally c =
    let rows = c.in_ok-rows.ensures.items_if_clones_equal (λ row same. search rules) in
    rw (c.new-changes.ensures.items, rows) (IsTally-none c.args.owners c.ranges.owners.fits)
