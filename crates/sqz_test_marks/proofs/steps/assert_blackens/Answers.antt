use Rattle.sqz_test_marks.proofs.PassLemmas.{IsLater-then}
use Rattle.sqz_test_marks.proofs.steps.assert_blackens.Goals as goal

pub returns : goal.returns
returns g c =
    IsLater-then _ _ _ c.assert_looks.ensures.later
    (c.in_ok-mark_targets.ensures.claims.later)
