use Rattle.sqz_look_cli.proofs.EndingLemmas.{IfOk-any}
use Rattle.sqz_look_cli.proofs.answering.outcome_of.Goals as goal

pub returns-in-Mend-clause-silent : goal.returns-in-Mend-clause-silent
returns-in-Mend-clause-silent g c = IfOk-any _ c.mended.result c.mended.ensures.silent
