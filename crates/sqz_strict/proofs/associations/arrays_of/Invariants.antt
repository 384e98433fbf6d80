use Rattle.std.proofs.Common.{◌≡◌}
use Rattle.std.specs.List.{filter_map, range_with_len}
use Rattle.sqz_strict.specs.Sets.{array_at}
use Rattle.sqz_strict.proofs.associations.arrays_of.Given as goal

abbrev pub invariant-loop-object : goal.invariant-loop-object
invariant-loop-object l = l.found.items ≡ filter_map (array_at l.heap l.pools) (range_with_len 0 l.object)
