use Rattle.std.proofs.Common.{◌≡◌, ◌++◌, map}
use Rattle.sqz_answers.specs.GroupCounts.{count_at}
use Rattle.sqz_answers.proofs.group_counts.counts_of.Given as goal

abbrev pub invariant-loop-key : goal.invariant-loop-key
invariant-loop-key l = l.counts.items ++ map (count_at l.count) l.key-iterator ≡ map (count_at l.count) l.tallies.entries
