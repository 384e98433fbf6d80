use Rattle.std.proofs.Common.{◌≡◌, Bool, List, ◌++◌}
use Rattle.sqz_regions.specs.Bases.{ArePlacesOf}
use Rattle.sqz_slide.proofs.MovedLemmas.{moved_below}
use Rattle.sqz_slide.proofs.mover.Mover.piece_of.Given as goal

abbrev pub invariant-loop-index : goal.invariant-loop-index
invariant-loop-index l =
    (marks : List Bool) → ArePlacesOf l.self.heap.now marks l.self.forward.now
    → moved_below l.self.heap.now l.self.weak marks l.from ++ l.words.items ≡ moved_below l.self.heap.now l.self.weak marks l.index
