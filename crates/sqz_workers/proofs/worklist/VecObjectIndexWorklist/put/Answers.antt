use Rattle.std.proofs.Common.{rules}
use Rattle.sqz_workers.proofs.worklist.VecObjectIndexWorklist.put.Goals as goal

pub returns-else-len-capacity-clause-room : goal.returns-else-len-capacity-clause-room
returns-else-len-capacity-clause-room c = search rules

pub returns-else-len-capacity-clause-full : goal.returns-else-len-capacity-clause-full
returns-else-len-capacity-clause-full c = search rules
