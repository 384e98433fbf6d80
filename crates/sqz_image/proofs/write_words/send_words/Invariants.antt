use Rattle.std.proofs.Common.{◌≡◌, length}
use Rattle.sqz_object.specs.Bytes.{spelling_of}
use Rattle.sqz_image.proofs.WritingLoop.{IsSending}
use Rattle.sqz_image.proofs.write_words.send_words.Given as goal

abbrev pub invariant-loop-rest : goal.invariant-loop-rest
invariant-loop-rest g l =
    record {
      room : length l.block ≡ 65536;
      sending : IsSending (g.W.Sink.state l.initial.sink) (g.W.Sink.state l.sink) (spelling_of l.order l.words)
          (spelling_of l.order l.rest) l.initial.turns l.turns;
    }

abbrev pub decreases-loop-rest : goal.decreases-loop-rest
decreases-loop-rest g l = length l.rest
