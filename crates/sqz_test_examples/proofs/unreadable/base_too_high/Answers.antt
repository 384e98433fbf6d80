use Rattle.std.proofs.Common.{inl, refl}
use Rattle.sqz_test_examples.proofs.unreadable.base_too_high.Goals as goal

pub returns : goal.returns
returns c weak = inl (inl refl)
