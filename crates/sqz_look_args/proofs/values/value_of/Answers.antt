use Rattle.std.proofs.Common.{Some}
use Rattle.clap.specs.Words.{found_of}
use Rattle.sqz_look_args.proofs.RequestLemmas.{value_given}
use Rattle.sqz_look_args.proofs.values.value_of.Goals as goal

pub returns-in-Some : goal.returns-in-Some
returns-in-Some c = value_given (found_of c.args.matches.now) c.args.id.now (Some c.in-Some.value) c.in-Some.ensures
