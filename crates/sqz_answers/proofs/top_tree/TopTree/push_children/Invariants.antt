use Rattle.std.proofs.Common.{◌≡◌, ◌++◌, map, not, take}
use Rattle.std.specs.List.{filter}
use Rattle.sqz_answers.specs.Levels.{is_joined}
use Rattle.sqz_answers.proofs.top_tree.TopTree.push_children.Given as goal

abbrev pub invariant-loop-child : goal.invariant-loop-child
invariant-loop-child l =
    record {
      parts : l.split.parts.items ≡ l.initial.split.parts.items
          ++ filter (is_joined l.self.parts.now l.value) (map (λ child. child.object) (take l.child-index l.child-items));
      below : l.split.below.items ≡ l.initial.split.below.items
          ++ filter (λ child. not (is_joined l.self.parts.now l.value child)) (map (λ child. child.object) (take l.child-index l.child-items));
    }
