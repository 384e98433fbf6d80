use Rattle.std.proofs.Common.{◌-◌}
use Rattle.sqz_image.specs.Objects.{object_count}
use Rattle.sqz_answers.specs.Splits.{IsSplitOf}
use Rattle.sqz_answers.proofs.top_tree.TopTree.split.Given as goal

abbrev pub invariant-loop-at : goal.invariant-loop-at
invariant-loop-at l = IsSplitOf l.self l.object l.at l.split.parts.items l.split.below.items

abbrev pub decreases-loop-at : goal.decreases-loop-at
decreases-loop-at l = object_count l.self.graph.heap.now - l.at
