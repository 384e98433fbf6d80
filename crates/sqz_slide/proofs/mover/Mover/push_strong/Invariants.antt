use Rattle.std.proofs.Common.{◌≡◌, Bool, List, ◌++◌, map, take}
use Rattle.sqz_regions.specs.Bases.{ArePlacesOf}
use Rattle.sqz_slide.specs.Moved.{moved_field}
use Rattle.sqz_slide.proofs.mover.Mover.push_strong.Given as goal

abbrev pub invariant-loop-index : goal.invariant-loop-index
invariant-loop-index l =
    (marks : List Bool) → ArePlacesOf l.self.heap.now marks l.self.forward.now
    → l.words.items ≡ l.fn.words.items ++ map (moved_field l.self.heap.now marks) (take l.index l.fields)
