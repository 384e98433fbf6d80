use Rattle.sqz_test_marks.proofs.PassLemmas.{IsLater-then}
use Rattle.sqz_test_marks.proofs.steps.mark_named.Goals as goal

pub returns : goal.returns
returns g c =
    IsLater-then _ _ _ c.assert_looks.ensures.later
    (IsLater-then _ _ _ c.assert_looks-2.ensures.later
    (IsLater-then _ _ _ c.assert_claims.ensures.later
    (c.assert_claims-2.ensures.later)))
