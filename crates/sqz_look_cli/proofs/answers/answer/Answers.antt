use Rattle.std.proofs.Common.{inl}
use Rattle.std.proofs.lemmas.Result.{IfOk-weaker}
use Rattle.sqz_look_files.proofs.CheckLemmas.{IsAnswerExit-ends}
use Rattle.sqz_look_cli.proofs.answers.answer.Goals as goal

pub returns-in-Check-clause-exits : goal.returns-in-Check-clause-exits
returns-in-Check-clause-exits g c = IsAnswerExit-ends _ _ _ _ _ c.check_all.result c.check_all.ensures.checked

pub returns-in-Check-clause-check : goal.returns-in-Check-clause-check
returns-in-Check-clause-check g c = rw (c.in-Check.is, ← c.deref.ensures.len) c.check_all.ensures.checked

pub returns-in-Check-clause-silent : goal.returns-in-Check-clause-silent
returns-in-Check-clause-silent g c =
    IfOk-weaker c.check_all.result _ _ (λ exit same zero. inl (same zero)) c.check_all.ensures.silent

pub returns-in-Diff-clause-silent : goal.returns-in-Diff-clause-silent
returns-in-Diff-clause-silent g c =
    IfOk-weaker c.compare.result _ _ (λ exit silent zero. silent) c.compare.ensures.silent
