use Rattle.std.proofs.Common.{rules}
use Rattle.sqz_image.proofs.sink_calls.SinkCalls.end_flush.Goals as goal

pub returns-in-Ok-clause-failed : goal.returns-in-Ok-clause-failed
returns-in-Ok-clause-failed c = search rules
