use Rattle.sqz_regions.proofs.CutLemmas.{IsCutListSoFar}
use Rattle.sqz_regions.proofs.cut.is_cut_list.Given as goal

abbrev pub invariant-loop-point : goal.invariant-loop-point
invariant-loop-point l = IsCutListSoFar l.points l.point-index l.lowest
