use Rattle.std.proofs.Common.{not}
use Rattle.sqz_trace.specs.Graph.{is_marked}
use Rattle.sqz_trace.proofs.DeadLemmas.{AreThoseBelow}
use Rattle.sqz_trace.proofs.complements.complement.Given as goal

abbrev pub invariant-loop-object : goal.invariant-loop-object
invariant-loop-object l = AreThoseBelow (λ index. not (is_marked l.marks index)) l.object l.objects.items
