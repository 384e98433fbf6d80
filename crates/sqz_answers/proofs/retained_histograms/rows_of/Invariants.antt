use Rattle.std.proofs.Common.{◌≡◌, map, take}
use Rattle.sqz_image.specs.Objects.{object_count}
use Rattle.sqz_answers.specs.RetainedHistograms.{retained_total}
use Rattle.sqz_answers.proofs.retained_histograms.rows_of.Given as goal

abbrev pub invariant-loop-total : goal.invariant-loop-total
invariant-loop-total l = l.rows.items ≡ map (retained_total (object_count l.heap) l.retained) (take l.total-index l.totals)
