use Rattle.std.proofs.Common.{rules}
use Rattle.sqz_image.proofs.sink_calls.SinkCalls.begin_write.Goals as goal

pub returns-clause-counted : goal.returns-clause-counted
returns-clause-counted c = search rules
