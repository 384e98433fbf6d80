use Rattle.std.proofs.Common.{Bool, List, map, length}
use Rattle.sqz_trace.specs.declared.weak.Weak.{Weak}
use Rattle.sqz_regions.specs.Regions.{Regioning, region_count}
use Rattle.sqz_slide.specs.Pieces.{first_region, AreShares, ArePiecesOf}
use Rattle.sqz_slide.proofs.sliding.concat_shares.Given as goal

abbrev pub invariant-loop-share : goal.invariant-loop-share
invariant-loop-share l =
    (regions : Regioning) (weak : Weak) (marks : List Bool) → AreShares regions weak marks l.fn.shares.items
    → ArePiecesOf regions weak marks 0
    (first_region (region_count regions.cut regions.memory) (length l.fn.shares.items) (length l.yielded))
    (map (λ piece. piece.items) l.pieces.items)
