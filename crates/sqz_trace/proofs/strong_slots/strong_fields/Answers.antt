use Rattle.std.proofs.Common.{rules}
use Rattle.sqz_trace.proofs.strong_slots.strong_fields.Goals as goal

pub returns-then-is_weak-clause-strong : goal.returns-then-is_weak-clause-strong
returns-then-is_weak-clause-strong c = search rules
