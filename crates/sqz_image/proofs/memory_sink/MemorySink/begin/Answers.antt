use Rattle.std.proofs.Common.{rules}
use Rattle.sqz_image.proofs.memory_sink.MemorySink.begin.Goals as goal

pub returns-clause-fails : goal.returns-clause-fails
returns-clause-fails c = search rules

pub returns-clause-went_on : goal.returns-clause-went_on
returns-clause-went_on c = search rules
