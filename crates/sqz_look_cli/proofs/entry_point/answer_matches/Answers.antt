use Rattle.sqz_look_cli.proofs.ComparisonLemmas.{IsCompared-asked}
use Rattle.sqz_look_cli.proofs.EndingLemmas.{AreChecked-request}
use Rattle.sqz_look_cli.proofs.entry_point.answer_matches.Goals as goal

pub returns-in-Ok-clause-diff : goal.returns-in-Ok-clause-diff
returns-in-Ok-clause-diff g c rows asked =
    IsCompared-asked _ rows c.in-Ok.request _ (c.in-Ok.ensures.diff rows asked) c.answer_request.ensures.compared

pub returns-in-Ok-clause-check : goal.returns-in-Ok-clause-check
returns-in-Ok-clause-check g c rows asked =
    AreChecked-request _ rows c.in-Ok.request _ (c.in-Ok.ensures.check rows asked) c.answer_request.ensures.check
