use Rattle.sqz_test_marks.proofs.PassLemmas.{IsLater-same, IsLater-then}
use Rattle.sqz_test_marks.proofs.steps.assert_each_blackens.Goals as goal

pub loop-object-init : goal.loop-object-init
loop-object-init g c = IsLater-same _

pub loop-object-preserved : goal.loop-object-preserved
loop-object-preserved g c = IsLater-then _ _ _ c.loop-object.invariant c.in_ok-assert_blackens.ensures
