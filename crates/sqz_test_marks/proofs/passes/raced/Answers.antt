use Rattle.sqz_test_marks.proofs.PassLemmas.{IsLater-then, HasCountedAll-rejoined}
use Rattle.sqz_test_marks.proofs.passes.raced.Goals as goal

pub returns-clause-counted : goal.returns-clause-counted
returns-clause-counted g c =
    let both = c.claim_by_both-answers in
    let second = IsLater-then _ _ _ c.assert_looks.ensures.later both.ensures.second in
    let parts = c.split-first in
    HasCountedAll-rejoined c.args.pass parts.result.0 parts.result.1 both.new.first both.new.second c.join.result 1
    c.requires.counted parts.ensures.kept parts.ensures.part both.ensures.first second c.join.ensures.joined
