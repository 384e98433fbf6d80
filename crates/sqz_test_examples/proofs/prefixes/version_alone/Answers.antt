use Rattle.std.proofs.Common.{inl, refl}
use Rattle.sqz_test_examples.proofs.prefixes.version_alone.Goals as goal

pub returns : goal.returns
returns c weak = inl (inl refl)
