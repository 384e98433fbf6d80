use Rattle.std.proofs.Common.{◌-◌, length}
use Rattle.sqz_facts.proofs.SumLemmas.{IsSumming}
use Rattle.sqz_facts.proofs.sums.chunk_sums.Given as goal

abbrev pub invariant-loop-at : goal.invariant-loop-at
invariant-loop-at l = IsSumming l.marks l.heap.chunks l.at l.object l.sums

abbrev pub decreases-loop-at : goal.decreases-loop-at
decreases-loop-at l = length l.data - l.at
