use Rattle.std.proofs.Common.{rules}
use Rattle.sqz_regions.proofs.RegionLemmas.{no_end_yet, one_end_more}
use Rattle.sqz_regions.proofs.regions.Regions.of.Goals as goal

pub loop-region-init : goal.loop-region-init
loop-region-init c = rw c.in_ok-ends.ensures.items (no_end_yet c.args.cut.now c.args.heap.now)

pub loop-region-preserved : goal.loop-region-preserved
loop-region-preserved c =
    rw c.in_ok-push.ensures.items (one_end_more _ _ _ _ _ _ c.loop-region.invariant c.end_of-end.ensures)

pub end_of-end-requires : goal.end_of-end-requires
end_of-end-requires c = search rules
