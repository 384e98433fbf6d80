use Rattle.std.proofs.Common.{◌≡◌, arith, leb, rules}
use Rattle.std.proofs.lemmas.List.Sorted.{IsPartitionPoint-from_clause}
use Rattle.sqz_regions.specs.Regions.{At}
use Rattle.sqz_regions.specs.Cuts.{IsCutList}
use Rattle.sqz_regions.proofs.CutLemmas.{few_points, points_parted, region_at_point}
use Rattle.sqz_regions.proofs.cut.Cut.region.Goals as goal

pub overflow_cast-result : goal.overflow_cast-result
overflow_cast-result c =
    let list : IsCutList c.in-At.points.items = rw c.in-At.is at c.self.invariant in
    omega (arith, few_points _ list)

pub returns-in-At-clause-region : goal.returns-in-At-clause-region
returns-in-At-clause-region c =
    let list : IsCutList c.in-At.points.items = rw c.in-At.is at c.self.invariant in
    let is : At c.in-At.points.items ≡ c.args.self.now = rw c.in-At.is at c.self.view_is in
    let clause = rw c.deref.ensures.value at c.partition_point.ensures.partitioned in
    let parted = points_parted _ c.args.word list in
    let point = IsPartitionPoint-from_clause (λ p. leb p c.args.word) _ _ clause parted (λ a r q k. search rules) in
    region_at_point _ _ _ _ is list (rw c.deref.ensures.value at c.partition_point.ensures.bound) point
