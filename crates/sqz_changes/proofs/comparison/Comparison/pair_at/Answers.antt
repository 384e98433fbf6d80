use Rattle.std.proofs.Common.{sym}
use Rattle.sqz_changes.proofs.PairLemmas.{new-in, old-in}
use Rattle.sqz_changes.proofs.comparison.Comparison.pair_at.Goals as goal

pub returns-clause-old : goal.returns-clause-old
returns-clause-old c =
    let self = c.args.self.now in
    old-in self.old.now self.new.now self.matching.now self.walk c.index.result.now (c.args.index, c.requires, sym c.index.ensures)

pub returns-clause-new : goal.returns-clause-new
returns-clause-new c =
    let self = c.args.self.now in
    new-in self.old.now self.new.now self.matching.now self.walk c.index.result.now (c.args.index, c.requires, sym c.index.ensures)
