use Rattle.sqz_regions.proofs.RegionLemmas.{all_objects_before}
use Rattle.sqz_regions.proofs.regions.Regions.count.Goals as goal

pub returns-clause-all : goal.returns-clause-all
returns-clause-all c =
    all_objects_before c.self.inside.cut.now c.self.inside.heap.now c.args.self.now c.count.result
    c.self.view_is c.count.ensures.valid c.count.ensures.count
