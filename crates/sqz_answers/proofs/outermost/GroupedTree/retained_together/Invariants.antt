use Rattle.sqz_answers.proofs.TogetherLemmas.{IsSummed}
use Rattle.sqz_answers.proofs.outermost.GroupedTree.retained_together.Given as goal

abbrev pub invariant-loop-object : goal.invariant-loop-object
invariant-loop-object l = IsSummed l.self.dominators.now l.self.keys.now l.outermost.items l.self.bound l.object l.sums.items
