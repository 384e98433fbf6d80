use Rattle.std.proofs.Common.{◌≡◌, Bool, List, ◌++◌, map, take}
use Rattle.sqz_trace.specs.declared.weak.Weak.{Weak}
use Rattle.sqz_regions.specs.Bases.{ArePlacesOf}
use Rattle.sqz_slide.specs.Moved.{nil_place, moved_weak}
use Rattle.sqz_slide.proofs.mover.Mover.push_weak.Given as goal

abbrev pub invariant-loop-index : goal.invariant-loop-index
invariant-loop-index l =
    (weak : Weak) (marks : List Bool) → ArePlacesOf l.self.heap.now marks l.self.forward.now → l.nil ≡ nil_place l.self.heap.now weak marks
    → l.words.items ≡ l.fn.words.items ++ map (moved_weak l.self.heap.now weak marks) (take l.index l.fields)
