use Rattle.std.proofs.Common.{◌≡◌}
use Rattle.std.specs.List.{flat_map, range_with_len}
use Rattle.sqz_strict.specs.Warnings.{warnings_at}
use Rattle.sqz_strict.proofs.warnings.warnings_with.Given as goal

abbrev pub invariant-loop-object : goal.invariant-loop-object
invariant-loop-object l =
    l.warnings.items
    ≡ flat_map (warnings_at l.live.graph.heap.now l.live.graph.weak l.live.marks l.sets)
    (range_with_len 0 l.object)
