use Rattle.std.proofs.Common.{◌≡◌, length}
use Rattle.sqz_workers.proofs.stealing.deques_of.Given as goal

abbrev pub invariant-loop : goal.invariant-loop
invariant-loop l = length l.deques.items ≡ l.counter
