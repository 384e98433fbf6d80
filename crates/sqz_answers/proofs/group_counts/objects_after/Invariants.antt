use Rattle.std.proofs.Common.{◌≡◌, ◌+◌, drop}
use Rattle.std.specs.Prelude.{sum_by}
use Rattle.sqz_answers.proofs.group_counts.objects_after.Given as goal

abbrev pub invariant-loop-index : goal.invariant-loop-index
invariant-loop-index l =
    l.objects + sum_by (λ count. count.objects) (drop l.index l.counts) ≡ sum_by (λ count. count.objects) (drop l.named l.counts)
