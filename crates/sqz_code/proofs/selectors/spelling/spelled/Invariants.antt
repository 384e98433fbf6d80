use Rattle.std.proofs.Common.{◌<◌, All}
use Rattle.std.specs.List.{range_with_len}
use Rattle.sqz_image.specs.Objects.{object_count}
use Rattle.sqz_names.specs.Structures.{HasText}
use Rattle.sqz_names.specs.Picks.{ArePicked}
use Rattle.sqz_code.proofs.selectors.spelling.spelled.Given as goal

abbrev pub invariant-loop-object : goal.invariant-loop-object
invariant-loop-object l =
    ArePicked (HasText l.heap l.text) (range_with_len 0 l.object) l.found.items
    × All (λ object. object < object_count l.heap) l.found.items
