use Rattle.std.proofs.Common.{inl, refl}
use Rattle.sqz_test_examples.proofs.unreadable.short_of_another_version.Goals as goal

pub returns : goal.returns
returns c weak = inl (inl refl)
