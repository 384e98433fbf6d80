use Rattle.sqz_regions.proofs.RegionLemmas.{AreEndsSoFar}
use Rattle.sqz_regions.proofs.regions.Regions.of.Given as goal

abbrev pub invariant-loop-region : goal.invariant-loop-region
invariant-loop-region l = AreEndsSoFar l.cut l.heap l.region l.end l.ends.items
