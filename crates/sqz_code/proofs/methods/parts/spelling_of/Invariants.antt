use Rattle.std.proofs.Common.{◌≡◌}
use Rattle.sqz_object.specs.Bytes.{spelling_of}
use Rattle.sqz_code.proofs.methods.parts.spelling_of.Given as goal

abbrev pub invariant-loop-word : goal.invariant-loop-word
invariant-loop-word l = l.bytes.items ≡ spelling_of l.order l.yielded
