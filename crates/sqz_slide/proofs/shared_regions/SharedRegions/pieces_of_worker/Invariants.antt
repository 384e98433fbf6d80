use Rattle.std.proofs.Common.{Bool, List, map}
use Rattle.sqz_regions.specs.Bases.{ArePlacesOf}
use Rattle.sqz_slide.specs.Pieces.{ArePiecesOf}
use Rattle.sqz_slide.proofs.shared_regions.SharedRegions.pieces_of_worker.Given as goal

abbrev pub invariant-loop-region : goal.invariant-loop-region
invariant-loop-region g l =
    (marks : List Bool) → ArePlacesOf l.self.mover.heap.now marks l.self.mover.forward.now
    → ArePiecesOf l.self.regions.now l.self.mover.weak marks l.from l.region (map (λ piece. piece.items) l.pieces.items)
