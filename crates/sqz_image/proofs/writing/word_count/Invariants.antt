use Rattle.std.proofs.Common.{◌≡◌, take, map, length}
use Rattle.std.specs.List.{concat}
use Rattle.sqz_image.proofs.writing.word_count.Given as goal

abbrev pub invariant-loop-piece : goal.invariant-loop-piece
invariant-loop-piece l = l.count ≡ length (concat (map (λ v. v.items) (take l.piece-index l.pieces)))
