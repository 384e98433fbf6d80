use Rattle.sqz_image.proofs.WritingLoop.{IsSending-write, SendStops-write, SendStops-write_failed}
use Rattle.sqz_image.proofs.write_whole.send.Goals as goal

pub returns-then-turns-eq0-clause-stopped : goal.returns-then-turns-eq0-clause-stopped
returns-then-turns-eq0-clause-stopped g c =
    SendStops-write _ _ _ _ _ _ c.loop-rest.invariant _ _ c.in-Ok.ensures.written c.if-turns-eq0.true

pub loop-rest-preserved : goal.loop-rest-preserved
loop-rest-preserved g c =
    IsSending-write _ _ _ _ _ _ c.loop-rest.invariant _ _ c.in-Ok.ensures.written c.if-turns-eq0.false

pub returns-in_default-clause-stopped : goal.returns-in_default-clause-stopped
returns-in_default-clause-stopped g c =
    SendStops-write_failed _ _ _ _ _ _ c.loop-rest.invariant _ c.in_default.field-0 c.in_default.ensures.written
