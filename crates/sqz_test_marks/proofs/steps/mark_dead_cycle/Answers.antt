use Rattle.sqz_test_marks.proofs.PassLemmas.{HasCountedAll-first}
use Rattle.sqz_test_marks.proofs.steps.mark_dead_cycle.Goals as goal

pub closed_after-requires-clause-counted : goal.closed_after-requires-clause-counted
closed_after-requires-clause-counted g c =
    let first = HasCountedAll-first _ c.in_ok-table.ensures.pass.1 in
    c.mark_named.ensures.counts (c.in_ok-mark_special.ensures.counts first)
