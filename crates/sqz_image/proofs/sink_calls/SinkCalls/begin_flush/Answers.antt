use Rattle.std.proofs.Common.{rules}
use Rattle.sqz_image.proofs.sink_calls.SinkCalls.begin_flush.Goals as goal

pub returns : goal.returns
returns c = search rules
