use Rattle.std.proofs.Common.{◌+◌, ◌-◌, ◌≤◌}
use Rattle.sqz_image.specs.Objects.{object_count}
use Rattle.sqz_regions.specs.Regions.{objects_before}
use Rattle.sqz_regions.proofs.regions.end_of.Given as goal

abbrev pub invariant-loop-object : goal.invariant-loop-object
invariant-loop-object l = l.object ≤ objects_before l.cut l.heap (l.region + 1)

abbrev pub decreases-loop-object : goal.decreases-loop-object
decreases-loop-object l = object_count l.heap - l.object
