use Rattle.std.proofs.Common.{◌≡◌, ◌+◌, length, map, take, ap, arith}
use Rattle.std.specs.List.{concat}
use Rattle.sqz_image.proofs.Pieces.{piece_more, pieces_within}
use Rattle.sqz_image.proofs.writing.word_count.Goals as goal
use Rattle.sqz_image.proofs.writing.word_count.Goals.{After-len}

-- the count with this piece
with_this : (c : After-len) → c.loop-piece.count + c.len.result
    ≡ length (concat (map (λ v. v.items) (take (c.loop-piece.piece-index + 1) c.args.pieces.now)))
with_this c =
    let more = piece_more (λ v. v.items) c.args.pieces.now c.loop-piece.piece-index c.piece-item.result c.loop-piece-test.true in
    let same = ap (λ v. length v.items) c.piece-item.is in
    omega (arith, more, same, c.loop-piece.invariant, c.len.ensures, c.piece-item.result.ok.0)

pub overflow_cast-count : goal.overflow_cast-count
overflow_cast-count c = omega (
  arith,
  with_this (goal.at.overflow_cast-count c).After-len,
  pieces_within (λ v. v.items) c.args.pieces.now (c.loop-piece.piece-index + 1),
  c.requires,
)

pub overflow_add-count : goal.overflow_add-count
overflow_add-count c = omega (
  arith,
  with_this (goal.at.overflow_add-count c).After-len,
  pieces_within (λ v. v.items) c.args.pieces.now (c.loop-piece.piece-index + 1),
  c.requires,
)

pub loop-piece-preserved : goal.loop-piece-preserved
loop-piece-preserved c = with_this (goal.at.loop-piece-preserved c).After-len
