use Rattle.std.proofs.Common.{◌+◌, arith}
use Rattle.sqz_regions.proofs.RegionLemmas.{objects_before-rises, objects_before-le, region_between}
use Rattle.sqz_regions.proofs.regions.Regions.objects.Goals as goal

pub returns-clause-ordered : goal.returns-clause-ordered
returns-clause-ordered c =
    let regions = c.args.self.now in
    let rises = objects_before-rises regions.cut regions.memory c.args.region (c.args.region + 1) (omega arith) in
    omega (arith, rises, c.before-2.ensures, c.before-3.ensures)

pub returns-clause-inside : goal.returns-clause-inside
returns-clause-inside c =
    let regions = c.args.self.now in
    omega (arith, objects_before-le regions.cut regions.memory (c.args.region + 1), c.before-3.ensures)

pub returns-clause-exact : goal.returns-clause-exact
returns-clause-exact c =
    let regions = c.args.self.now in
    region_between regions.cut regions.memory c.args.region _ _ c.before-2.ensures c.before-3.ensures
