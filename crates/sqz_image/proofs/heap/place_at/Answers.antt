use Rattle.std.proofs.Common.{◌/◌, arith}
use Rattle.sqz_image.proofs.HeapLemmas.{no_address, place_of_address}
use Rattle.sqz_image.proofs.heap.place_at.Goals as goal

pub returns-in_err-offset : goal.returns-in_err-offset
returns-in_err-offset c =
    λ indexes ranked.
    rw c.from_residual.ensures
    (no_address c.args.base indexes c.args.address (λ index is. c.in_err-offset.ensures (omega (arith, is))))

pub returns-then-offset-ne0 : goal.returns-then-offset-ne0
returns-then-offset-ne0 c =
    λ indexes ranked.
    no_address c.args.base indexes c.args.address
    (λ index is. c.if-offset-ne0.true (omega (arith, is, c.in_ok-offset.ensures)))

pub returns : goal.returns
returns c =
    λ indexes ranked.
    place_of_address c.args.base indexes (c.in_ok-offset.offset / 4) c.args.address
    (omega (arith, c.in_ok-offset.ensures, c.if-offset-ne0.false)) c.place_of.result
    (c.place_of.ensures indexes ranked)
