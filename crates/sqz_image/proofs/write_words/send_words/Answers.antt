use Rattle.std.proofs.Common.{arith}
use Rattle.std.proofs.lemmas.Result.{err_from_is_err_and}
use Rattle.sqz_image.proofs.Spelling.{spelling_of-parts}
use Rattle.sqz_image.proofs.WritingLoop.{IsSending-more, SendStops-more}
use Rattle.sqz_image.proofs.write_words.send_words.Goals as goal

pub returns-in_err-send-clause-stopped : goal.returns-in_err-send-clause-stopped
returns-in_err-send-clause-stopped g c =
    let p = err_from_is_err_and c.from_residual.result c.from_residual.ensures.1 in
    let parts = spelling_of-parts c.args.order c.loop-rest.rest.now _ _ _ c.split_at.ensures.by_index.0 c.spell.ensures in
    rw (p.1, p.2) (SendStops-more _ _ _ _ _ _ c.loop-rest.invariant.sending _ _ _ parts _ c.in_err-send.ensures.stopped)

pub loop-rest-preserved : goal.loop-rest-preserved
loop-rest-preserved g c =
    let parts = spelling_of-parts c.args.order c.loop-rest.rest.now _ _ _ c.split_at.ensures.by_index.0 c.spell.ensures in
    record {
      room = omega arith;
      sending = IsSending-more _ _ _ _ _ _ c.loop-rest.invariant.sending _ _ _ parts _ c.in_ok-send.ensures.whole;
    }
