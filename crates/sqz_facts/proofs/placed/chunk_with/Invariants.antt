use Rattle.std.proofs.Common.{◌-◌, length}
use Rattle.sqz_facts.proofs.WalkLemmas.{IsSearching}
use Rattle.sqz_facts.proofs.placed.chunk_with.Given as goal

abbrev pub invariant-loop-at : goal.invariant-loop-at
invariant-loop-at l = IsSearching l.heap.chunks l.at l.object l.word

abbrev pub decreases-loop-at : goal.decreases-loop-at
decreases-loop-at l = length l.data - l.at
