use Rattle.sqz_look_cli.proofs.EndingLemmas.{IfOk-passed, checks_passed, each_passed, objects_passed, HasPassedOn-written}
use Rattle.sqz_look_cli.proofs.ComparisonLemmas.{comparison_passed}
use Rattle.sqz_look_cli.proofs.answering.printed.Goals as goal

pub returns-clause-exits : goal.returns-clause-exits
returns-clause-exits g c = IfOk-passed _ _ c.pass_on.ensures.outcome _ c.answer-answered.ensures.exits

pub returns-clause-whole : goal.returns-clause-whole
returns-clause-whole g c = HasPassedOn-written _ _ _ _ c.pass_on.ensures.written

pub returns-clause-check : goal.returns-clause-check
returns-clause-check g c =
    checks_passed _ _ c.pass_on.ensures.outcome _ _ _ c.args.question.now c.answer-answered.ensures.check

pub returns-clause-compared : goal.returns-clause-compared
returns-clause-compared g c =
    comparison_passed _ _ _ c.args.question.now _ _ c.pass_on.ensures.outcome c.answer-answered.ensures.compared

pub returns-clause-each : goal.returns-clause-each
returns-clause-each g c =
    each_passed _ _ c.pass_on.ensures.outcome _ _ _ c.args.question.now c.answer-answered.ensures.each

pub returns-clause-objects : goal.returns-clause-objects
returns-clause-objects g c =
    objects_passed _ _ c.pass_on.ensures.outcome _ _ _ c.args.question.now c.answer-answered.ensures.objects

pub returns-clause-silent : goal.returns-clause-silent
returns-clause-silent g c = IfOk-passed _ _ c.pass_on.ensures.outcome _ c.answer-answered.ensures.silent
