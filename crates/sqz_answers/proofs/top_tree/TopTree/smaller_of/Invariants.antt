use Rattle.std.proofs.Common.{◌≡◌, take}
use Rattle.std.specs.List.{filter}
use Rattle.sqz_answers.specs.TopRows.{is_smaller}
use Rattle.sqz_answers.proofs.top_tree.TopTree.smaller_of.Given as goal

abbrev pub invariant-loop-object : goal.invariant-loop-object
invariant-loop-object l = l.smaller.items ≡ filter (is_smaller l.self.dominators.now l.self.limits) (take l.object-index l.below)
