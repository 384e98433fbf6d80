use Rattle.std.proofs.Common.{◌≡◌}
use Rattle.sqz_trace.proofs.DefectLemmas.{bad_from}
use Rattle.sqz_trace.proofs.defects.bad_field.Given as goal

abbrev pub invariant-loop-index : goal.invariant-loop-index
invariant-loop-index l = bad_from l.heap l.object l.index ≡ bad_from l.heap l.object 0
