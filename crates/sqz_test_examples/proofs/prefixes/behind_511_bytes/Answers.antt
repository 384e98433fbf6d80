use Rattle.std.proofs.Common.{inl, refl}
use Rattle.sqz_test_examples.proofs.prefixes.behind_511_bytes.Goals as goal

pub returns : goal.returns
returns c weak = inl (inl refl)
