use Rattle.sqz_test_marks.specs.Passes.{IsLater}
use Rattle.sqz_test_marks.proofs.steps.assert_each_blackens.Given as goal

abbrev pub invariant-loop-object : goal.invariant-loop-object
invariant-loop-object g l = IsLater l.fn.pass l.pass
