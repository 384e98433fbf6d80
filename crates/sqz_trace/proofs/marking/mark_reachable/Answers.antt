use Rattle.std.proofs.lemmas.Result.{IfOk-weaker}
use Rattle.sqz_trace.proofs.AvoidingLemmas.{IsReachability-without_none}
use Rattle.sqz_trace.proofs.marking.mark_reachable.Goals as goal

pub returns-clause-marks : goal.returns-clause-marks
returns-clause-marks c =
    IfOk-weaker c.mark_without.result _ _ (λ marking. IsReachability-without_none c.args.graph.heap.now c.args.graph.weak marking.marks)
    c.mark_without.ensures.marks
