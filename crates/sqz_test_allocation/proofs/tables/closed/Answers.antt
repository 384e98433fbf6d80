use Rattle.std.proofs.Common.{sym, subst}
use Rattle.sqz_marks.specs.Table.{HeldPass, HasCountedAll}
use Rattle.sqz_test_allocation.proofs.tables.closed.Goals as goal

pub close-requires-2-clause-counted : goal.close-requires-2-clause-counted
close-requires-2-clause-counted g c =
    subst (λ (p : HeldPass). HasCountedAll p.view) (sym c.in-Err.ensures.refused.1) c.requires.counted
