use Rattle.std.proofs.Common.{◌≡◌, ℕ, Result, map, length, get_or, ap, subst, ◌∙◌}
use Rattle.std.specs.Global.{Vec}
use Rattle.std.specs.declared.alloc.AllocError.{AllocError}
use Rattle.std.proofs.lemmas.List.{map-append, length_push}
use Rattle.std.proofs.lemmas.Iterator.Consumers.{YieldsList-turn, YieldsList-end}
use Rattle.std.proofs.lemmas.Iterator.Adapters.{YieldsList-from_vec}
use Rattle.sqz_regions.specs.Regions.{region_count}
use Rattle.sqz_slide.specs.Pieces.{first_region, ArePiecesOf}
use Rattle.sqz_slide.proofs.PieceLemmas.{no_piece_yet, pieces_joined}
use Rattle.sqz_slide.proofs.ShareLemmas.{first_region-none, first_region-all}
use Rattle.sqz_slide.proofs.sliding.concat_shares.Goals as goal

pub loop-share-init : goal.loop-share-init
loop-share-init c regions weak marks shares =
    let none = first_region-none (region_count regions.cut regions.memory) (length c.args.shares.items) c.requires.some in
    rw (c.in_ok-pieces.ensures.items, none) (no_piece_yet regions weak marks 0)

pub loop-share-preserved : goal.loop-share-preserved
loop-share-preserved c regions weak marks shares =
    let all = c.args.shares.items in
    let worker = length c.loop-share.yielded in
    let share = c.in_ok-share.field-0 in
    let gives = c.into_iter-share-iterator.ensures.into_iter_gives in
    let road = YieldsList-from_vec all gives.0 (gives.1 ∙ c.args.shares.ok.0) in
    let turn = YieldsList-turn road c.loop-share.yielded c.loop-share.share-iterator c.loop-share.yielded_by
    c.next.result c.next.new.self c.in-Some.share c.in-Some.is c.next.ensures.steps in
    let is = subst (λ (answer : Result (Vec (Vec ℕ)) AllocError). answer ≡ get_or all worker answer) c.in_ok-share.was turn.1 in
    rw (
      c.in_ok-append.ensures.items,
      map-append (λ piece. piece.items) c.loop-share.pieces.items share.items,
      length_push c.loop-share.yielded c.in-Some.share,
    )
    (pieces_joined regions weak marks 0 _ _ _ _ (c.loop-share.invariant regions weak marks shares) (shares worker share turn.0 is))

pub returns : goal.returns
returns c regions weak marks shares =
    let count = region_count regions.cut regions.memory in
    let all = c.args.shares.items in
    let gives = c.into_iter-share-iterator.ensures.into_iter_gives in
    let road = YieldsList-from_vec all gives.0 (gives.1 ∙ c.args.shares.ok.0) in
    let end = YieldsList-end road c.loop-share.yielded c.loop-share.share-iterator c.loop-share.yielded_by
    c.next.result c.next.new.self c.in-None.is c.next.ensures.steps in
    subst (λ (to : ℕ). ArePiecesOf regions weak marks 0 to (map (λ piece. piece.items) c.loop-share.pieces.items))
    (ap (first_region count (length all)) end.1 ∙ first_region-all count (length all) c.requires.some)
    (c.loop-share.invariant regions weak marks shares)
