use Rattle.std.proofs.Common.{arith}
use Rattle.sqz_changes.proofs.PairLemmas.{few-pairs}
use Rattle.sqz_changes.proofs.comparison.Comparison.pair_count.Goals as goal

pub overflow_cast-result : goal.overflow_cast-result
overflow_cast-result c =
    let self = c.args.self.now in
    omega (arith, few-pairs self.old.now self.new.now self.matching.now self.walk)

pub returns-clause-few : goal.returns-clause-few
returns-clause-few c =
    let self = c.args.self.now in
    omega (arith, few-pairs self.old.now self.new.now self.matching.now self.walk)
