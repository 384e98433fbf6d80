use Rattle.std.proofs.Common.{◌≡◌, ◌++◌}
use Rattle.std.specs.List.{filter_map, range_with_len}
use Rattle.sqz_image.specs.declared.slot.Slot.TheVariants.{Field}
use Rattle.sqz_trace.specs.Targets.{target}
use Rattle.sqz_strict.proofs.associations.push_elements.Given as goal

abbrev pub invariant-loop-field : goal.invariant-loop-field
invariant-loop-field l =
    l.found.items
    ≡ l.initial.found.items ++ filter_map (λ field. target l.heap l.array (Field field)) (range_with_len 0 l.field)
