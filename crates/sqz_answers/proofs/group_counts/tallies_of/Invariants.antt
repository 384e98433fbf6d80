use Rattle.std.proofs.Common.{◌≡◌, take}
use Rattle.std.specs.Prelude.{sum_by}
use Rattle.std.specs.Map.{values_of}
use Rattle.sqz_answers.specs.GroupCounts.{AreTallies}
use Rattle.sqz_answers.proofs.group_counts.tallies_of.Given as goal

abbrev pub invariant-loop-object : goal.invariant-loop-object
invariant-loop-object l =
    record {
      tallies : AreTallies l.graph.heap.now l.graph.weak (take l.object-index l.objects) l.tallies;
      total : sum_by (λ number. number) (values_of l.tallies.entries) ≡ l.object-index;
    }
