use Rattle.std.proofs.Common.{ℕ, Bool, List, Ok, map, subst, sym, ◌∙◌, arith}
use Rattle.sqz_regions.specs.Bases.{ArePlacesOf}
use Rattle.sqz_slide.specs.Pieces.{IsShareOf, AreShares, ArePieces}
use Rattle.sqz_slide.proofs.PieceLemmas.{concat-pieces}
use Rattle.sqz_slide.proofs.sliding.slide.Goals as goal
use Rattle.sqz_slide.proofs.sliding.slide.Goals.{After-new}

pub concat_shares-requires : goal.concat_shares-requires
concat_shares-requires g c =
    record { some = omega (arith, c.in_ok-shares.shares.ok.0, c.in_ok-shares.ensures.len, c.number.ensures.some) }

-- the workers' pieces are those of all regions
are_pieces : (g : _) (c : After-new g) (marks : List Bool) → ArePlacesOf c.args.heap.now marks c.args.forward.now
    → ArePieces c.args.regions.now c.args.weak marks c.new.result
are_pieces g c marks places =
    let all = c.in_ok-shares.shares in
    let count = sym all.ok.0 ∙ c.in_ok-shares.ensures.len in
    let are : AreShares c.args.regions.now c.args.weak marks c.in_ok-shares.shares.items =
    λ worker pieces lt is.
    (let given = rw (← is) at (c.in_ok-shares.ensures.each worker (Ok pieces) (omega (arith, lt, count))).1.met in
    subst (λ (n : ℕ). IsShareOf c.args.regions.now c.args.weak marks n worker (map (λ piece. piece.items) pieces.items))
    (sym (count ∙ c.number.ensures.number)) (given marks places)) in
    rw c.new.ensures (c.in_ok-concat_shares.ensures c.args.regions.now c.args.weak marks are)

pub returns-clause-pieces : goal.returns-clause-pieces
returns-clause-pieces g c marks places = are_pieces g c marks places

pub returns-clause-whole : goal.returns-clause-whole
returns-clause-whole g c marks places sized =
    concat-pieces c.args.regions.now c.args.weak marks c.args.heap.now c.count.result c.new.result c.requires.regions
    (rw c.count.ensures.count (are_pieces g c marks places)) c.count.ensures.all sized
