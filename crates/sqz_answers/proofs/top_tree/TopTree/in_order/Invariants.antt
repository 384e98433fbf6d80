use Rattle.std.proofs.Common.{◌≡◌, map, take}
use Rattle.sqz_answers.proofs.LevelLemmas.{measured_by}
use Rattle.sqz_answers.proofs.top_tree.TopTree.in_order.Given as goal

abbrev pub invariant-loop-object : goal.invariant-loop-object
invariant-loop-object l = l.measured.items ≡ map (measured_by l.self.dominators.now) (take l.object-index l.objects)
