use Rattle.std.proofs.Common.{◌≡◌, ◌/◌, length, sym, ◌∙◌, arith}
use Rattle.std.proofs.lemmas.List.{get_or_read}
use Rattle.sqz_image.proofs.RankLemmas.{IsAwaiting, IsFilled-or, IsAwaiting-longer, IsAwaiting-filled}
use Rattle.sqz_image.proofs.ranks.add.Goals as goal
use Rattle.sqz_image.proofs.ranks.add.Goals.{then-len-block+in_ok-resize, else-len-block}

pub returns : goal.returns
returns c numbers filled count rising =
    let next = c.args.number in
    let before = c.args.blocks.now.items in
    let blocks = c.if-len-block.blocks.items in
    let size : c.len.result ≡ length before = c.len.ensures ∙ c.args.blocks.now.ok.0 in
    let awaiting : IsAwaiting numbers next blocks =
    elim c.if-len-block.branch [
      | then-len-block+in_ok-resize w ↦
          rw (w.blocks-is, w.in_ok-resize.ensures.items, c.args.blocks.now.ok.0, sym count)
          (IsAwaiting-longer numbers next before filled.ranked rising (omega (arith, w.if-len-block.true, size)))
      | else-len-block w ↦
          rw w.blocks-is
          (IsAwaiting-filled numbers next before filled rising (omega (arith, w.if-len-block.false, size)))
    ] in
    let last = c.index_mut.result.now in
    IsFilled-or numbers next blocks awaiting.ranked rising awaiting.ready last
    (get_or_read blocks (next / 32) last (omega (arith, awaiting.ready.last)) c.index_mut.ensures.value _)
