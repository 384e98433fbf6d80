use Rattle.std.proofs.Common.{rules}
use Rattle.sqz_image.proofs.sink_calls.SinkCalls.end_write.Goals as goal

pub returns-in_default-clause-none : goal.returns-in_default-clause-none
returns-in_default-clause-none c = search rules

pub returns-after-self-clause-some : goal.returns-after-self-clause-some
returns-after-self-clause-some c = search rules
