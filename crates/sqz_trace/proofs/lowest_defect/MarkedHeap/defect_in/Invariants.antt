use Rattle.std.proofs.Common.{◌≡◌}
use Rattle.sqz_trace.specs.Ranges.{defect_at, first_between}
use Rattle.sqz_trace.proofs.lowest_defect.MarkedHeap.defect_in.Given as goal

abbrev pub invariant-loop-object : goal.invariant-loop-object
invariant-loop-object l =
    first_between (defect_at l.self.heap.now l.self.weak l.self.marks.now) l.from l.to ≡ first_between (defect_at l.self.heap.now l.self.weak l.self.marks.now) l.object l.to
