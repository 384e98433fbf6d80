use Rattle.std.proofs.Common.{◌++◌, refl, arith}
use Rattle.sqz_object.specs.Bytes.{spelling_of}
use Rattle.std.proofs.lemmas.Result.{err_from_is_err_and}
use Rattle.sqz_image.specs.Devices.{turn_limit}
use Rattle.sqz_image.proofs.Spelling.{piece_words, spelling_of-append, spelling_of-piece_words}
use Rattle.sqz_image.proofs.WritingLoop.{IsSending-none, IsSending-more, SendStops-more, WriteStops-sent, WriteStops-flush}
use Rattle.sqz_image.proofs.write_words.write_words.Goals as goal

pub returns-in_err-send-clause-stopped : goal.returns-in_err-send-clause-stopped
returns-in_err-send-clause-stopped g c =
    let p = err_from_is_err_and c.from_residual.result c.from_residual.ensures.1 in
    let words = spelling_of c.args.order (c.args.header.now ++ piece_words c.args.pieces.now) in
    let start = IsSending-none (g.W.Sink.state c.args.sink.now) (c.args.prefix.now ++ words) turn_limit (omega arith) in
    rw (p.1, p.2)
    (WriteStops-sent _ _ _ _ (SendStops-more _ _ _ _ _ _ start _ c.args.prefix.now words refl _ c.in_err-send.ensures.stopped))

pub returns-in_err-send_words-clause-stopped : goal.returns-in_err-send_words-clause-stopped
returns-in_err-send_words-clause-stopped g c =
    let from = c.from_residual-in_err-send_words in
    let p = err_from_is_err_and from.result from.ensures.1 in
    let words = spelling_of c.args.order (c.args.header.now ++ piece_words c.args.pieces.now) in
    let start = IsSending-none (g.W.Sink.state c.args.sink.now) (c.args.prefix.now ++ words) turn_limit (omega arith) in
    let sending = IsSending-more _ _ _ _ _ _ start _ c.args.prefix.now words refl _ c.in_ok-send.ensures.whole in
    let parts = spelling_of-append c.args.order c.args.header.now (piece_words c.args.pieces.now) in
    rw (p.1, p.2) (WriteStops-sent _ _ _ _ (SendStops-more _ _ _ _ _ _ sending _ _ _ parts _ c.in_err-send_words.ensures.stopped))

pub loop-piece-init : goal.loop-piece-init
loop-piece-init g c =
    let words = spelling_of c.args.order (c.args.header.now ++ piece_words c.args.pieces.now) in
    let start = IsSending-none (g.W.Sink.state c.args.sink.now) (c.args.prefix.now ++ words) turn_limit (omega arith) in
    let sending = IsSending-more _ _ _ _ _ _ start _ c.args.prefix.now words refl _ c.in_ok-send.ensures.whole in
    let parts = spelling_of-append c.args.order c.args.header.now (piece_words c.args.pieces.now) in
    record {
      room = omega arith;
      sending = IsSending-more _ _ _ _ _ _ sending _ _ _ parts _ c.in_ok-send_words.ensures.whole;
    }

pub returns-in_err-send_words-2-clause-stopped : goal.returns-in_err-send_words-2-clause-stopped
returns-in_err-send_words-2-clause-stopped g c =
    let from = c.from_residual-in_err-send_words-2 in
    let p = err_from_is_err_and from.result from.ensures.1 in
    let parts = spelling_of-piece_words c.args.order c.args.pieces.now c.loop-piece.piece-index _ _ c.loop-piece-test.true
    c.piece-item.is c.deref.ensures.value in
    rw (p.1, p.2) (WriteStops-sent _ _ _ _ (SendStops-more _ _ _ _ _ _ c.loop-piece.invariant.sending _ _ _ parts _
    c.in_err-send_words-2.ensures.stopped))

pub loop-piece-preserved : goal.loop-piece-preserved
loop-piece-preserved g c =
    let parts = spelling_of-piece_words c.args.order c.args.pieces.now c.loop-piece.piece-index _ _ c.loop-piece-test.true
    c.piece-item.is c.deref.ensures.value in
    record {
      room = omega arith;
      sending = IsSending-more _ _ _ _ _ _ c.loop-piece.invariant.sending _ _ _ parts _ c.in_ok-send_words-2.ensures.whole;
    }

pub returns-in_default-clause-stopped : goal.returns-in_default-clause-stopped
returns-in_default-clause-stopped g c =
    WriteStops-flush _ _ _ _ _ _ c.in_default.field-0 c.loop-piece.invariant.sending c.in_default.ensures.flushed
