use Rattle.sqz_test_marks.proofs.PassLemmas.{IsLater-then}
use Rattle.sqz_test_marks.proofs.steps.assert_claims.Goals as goal

pub returns-clause-later : goal.returns-clause-later
returns-clause-later g c = IsLater-then _ _ _ c.assert_marked.ensures.later c.claim-found.ensures.later
