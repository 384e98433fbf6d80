use Rattle.std.proofs.Common.{inl, refl}
use Rattle.sqz_test_examples.proofs.unreadable.uneven_base.Goals as goal

pub returns : goal.returns
returns c weak = inl (inl refl)
