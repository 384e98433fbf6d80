use Rattle.std.proofs.Common.{◌≡◌}
use Rattle.std.specs.List.{filter_map, range_with_len}
use Rattle.sqz_strict.specs.Sets.{class_at}
use Rattle.sqz_strict.proofs.sets.classes_of.Given as goal

abbrev pub invariant-loop-object : goal.invariant-loop-object
invariant-loop-object l =
    l.found.items ≡ filter_map (class_at l.live.graph.heap.now l.live.graph.weak l.live.marks) (range_with_len 0 l.object)
