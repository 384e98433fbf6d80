use Rattle.std.proofs.Common.{refl}
use Rattle.clap.proofs.OnLiterals.{clap_on_literals}
use Rattle.sqz_compact_args.proofs.laws.worked_options.Goals as goal

pub returns-clause-defaults : goal.returns-clause-defaults
unfolding clap_on_literals
returns-clause-defaults c = (refl, refl, refl, refl)

pub returns-clause-given : goal.returns-clause-given
unfolding clap_on_literals
returns-clause-given c = (refl, refl, refl, refl)
