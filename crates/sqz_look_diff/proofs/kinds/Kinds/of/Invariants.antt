use Rattle.std.proofs.Common.{◌≡◌, length}
use Rattle.sqz_look_diff.proofs.kinds.Kinds.of.Given as goal

abbrev pub invariant-loop-object : goal.invariant-loop-object
invariant-loop-object l = length l.kinds.items ≡ l.object
