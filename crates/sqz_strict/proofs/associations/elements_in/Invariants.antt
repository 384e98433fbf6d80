use Rattle.std.proofs.Common.{◌≡◌}
use Rattle.std.specs.List.{flat_map, range_with_len}
use Rattle.sqz_strict.specs.Sets.{elements_at}
use Rattle.sqz_strict.proofs.associations.elements_in.Given as goal

abbrev pub invariant-loop-object : goal.invariant-loop-object
invariant-loop-object l = l.found.items ≡ flat_map (elements_at l.heap l.arrays) (range_with_len 0 l.object)
