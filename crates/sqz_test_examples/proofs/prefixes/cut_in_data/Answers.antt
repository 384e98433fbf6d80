use Rattle.std.proofs.Common.{inl, refl}
use Rattle.sqz_test_examples.proofs.prefixes.cut_in_data.Goals as goal

pub returns : goal.returns
returns c weak = inl (inl refl)
