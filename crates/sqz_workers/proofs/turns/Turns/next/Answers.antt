use Rattle.std.proofs.Common.{rules}
use Rattle.sqz_workers.proofs.turns.Turns.next.Goals as goal

pub returns-clause-limits : goal.returns-clause-limits
returns-clause-limits c = search rules
