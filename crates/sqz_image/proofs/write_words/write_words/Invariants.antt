use Rattle.std.proofs.Common.{◌≡◌, ◌++◌, length, drop}
use Rattle.sqz_object.specs.Bytes.{spelling_of}
use Rattle.sqz_image.specs.Devices.{turn_limit}
use Rattle.sqz_image.proofs.Spelling.{piece_words}
use Rattle.sqz_image.proofs.WritingLoop.{IsSending}
use Rattle.sqz_image.proofs.write_words.write_words.Given as goal

abbrev pub invariant-loop-piece : goal.invariant-loop-piece
invariant-loop-piece g l =
    record {
      room : length l.block ≡ 65536;
      sending : IsSending (g.W.Sink.state l.fn.sink) (g.W.Sink.state l.sink)
          (l.prefix ++ spelling_of l.order (l.header ++ piece_words l.pieces))
          (spelling_of l.order (piece_words (drop l.piece-index l.pieces))) turn_limit l.turns;
    }
