use Rattle.std.proofs.Common.{◌≡◌, ◌+◌, take, sum}
use Rattle.sqz_workers.proofs.marked.worker_counts.Given as goal

abbrev pub invariant-loop-objects : goal.invariant-loop-objects
invariant-loop-objects l =
    record {
      same : l.counts.items ≡ take l.objects-index l.won;
      left : sum (take l.objects-index l.won) + l.rest ≡ l.marked;
    }
