use Rattle.sqz_regions.proofs.RegionLemmas.{region_inside}
use Rattle.sqz_regions.proofs.regions.Regions.region.Goals as goal

pub returns-clause-inside : goal.returns-clause-inside
returns-clause-inside c =
    region_inside _ _ _ _ _ _ c.self.view_is
    c.region.ensures.valid c.first.ensures.first c.region.ensures.region c.requires
