use Rattle.std.proofs.Common.{sym}
use Rattle.sqz_regions.proofs.RegionLemmas.{objects_before-zero}
use Rattle.sqz_regions.proofs.regions.Regions.before.Goals as goal

pub returns-then-region-eq0 : goal.returns-then-region-eq0
returns-then-region-eq0 c =
    rw c.if-region-eq0.true (sym (objects_before-zero c.args.self.now.cut c.args.self.now.memory))
