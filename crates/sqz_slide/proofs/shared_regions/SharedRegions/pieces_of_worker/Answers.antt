use Rattle.std.proofs.Common.{◌≡◌, ◌+◌, arith}
use Rattle.std.proofs.lemmas.List.{map_push}
use Rattle.sqz_slide.proofs.PieceLemmas.{one_piece_more}
use Rattle.sqz_slide.proofs.ShareLemmas.{first_region-le, first_region-rises}
use Rattle.sqz_slide.proofs.shared_regions.SharedRegions.pieces_of_worker.Goals as goal

pub piece_of-requires-clause-region : goal.piece_of-requires-clause-region
piece_of-requires-clause-region g c =
    let le = first_region-le c.count-count.result c.args.self.now.workers (omega arith) (c.args.worker + 1) (omega arith) in
    omega (arith, le, c.first_region-to.ensures, c.count-count.ensures.count, c.loop-region-test.true)

pub loop-region-preserved : goal.loop-region-preserved
loop-region-preserved g c marks places =
    let regions = c.args.self.now.regions.now in
    rw c.in_ok-push.ensures.items
    (rw map_push
    (one_piece_more regions c.args.self.now.mover.weak marks _ _ _ _ (c.loop-region.invariant marks places) (c.in_ok-piece_of.ensures marks places)))

pub returns : goal.returns
returns g c marks places =
    let regions = c.args.self.now.regions.now in
    let count = c.count-count.ensures.count in
    let rises = first_region-rises c.count-count.result c.args.self.now.workers (omega arith) c.args.worker (c.args.worker + 1) (omega arith) in
    let most = c.loop-region.auto.region-end (omega (arith, rises, c.first_region-from.ensures, c.first_region-to.ensures)) in
    let end : c.loop-region.region ≡ c.first_region-to.result = omega (arith, c.loop-region-test.false, most) in
    rw (← count, ← c.first_region-from.ensures, ← c.first_region-to.ensures, ← end) (c.loop-region.invariant marks places)
