use Rattle.sqz_test_marks.proofs.steps.closed_after.Goals as goal

pub close_again-requires-clause-counted : goal.close_again-requires-clause-counted
close_again-requires-clause-counted g c = c.in_ok-assert_each_blackens.ensures.counts c.requires.counted
