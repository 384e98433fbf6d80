use Rattle.std.proofs.Common.{sym, subst}
use Rattle.sqz_test_marks.specs.Passes.{IsLater}
use Rattle.sqz_test_marks.proofs.PassLemmas.{IsLater-looked}
use Rattle.sqz_test_marks.proofs.steps.assert_looks.Goals as goal

pub returns-clause-later : goal.returns-clause-later
returns-clause-later g c =
    subst (IsLater c.args.pass.now) (sym c.look.ensures.step) (IsLater-looked c.args.pass.now c.args.object c.look.result)
