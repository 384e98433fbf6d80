use Rattle.std.proofs.Common.{length}
use Rattle.sqz_image.proofs.WritingLoop.{IsSending}
use Rattle.sqz_image.proofs.write_whole.send.Given as goal

abbrev pub invariant-loop-rest : goal.invariant-loop-rest
invariant-loop-rest g l = IsSending (g.W.Sink.state l.initial.sink) (g.W.Sink.state l.sink) l.bytes l.rest l.initial.turns l.turns

abbrev pub decreases-loop-rest : goal.decreases-loop-rest
decreases-loop-rest g l = length l.rest
