use Rattle.std.proofs.Common.{◌≡◌}
use Rattle.std.specs.List.{filter_map, range_with_len}
use Rattle.sqz_strict.specs.Sets.{held_at}
use Rattle.sqz_strict.proofs.sets.held_by_classes.Given as goal

abbrev pub invariant-loop-object : goal.invariant-loop-object
invariant-loop-object l =
    l.found.items
    ≡ filter_map (held_at l.live.graph.heap.now l.live.graph.weak l.live.marks l.classes l.field) (range_with_len 0 l.object)
