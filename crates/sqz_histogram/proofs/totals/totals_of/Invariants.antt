use Rattle.std.proofs.Common.{◌≡◌, map, take}
use Rattle.sqz_image.specs.Objects.{object_count}
use Rattle.sqz_histogram.specs.Shares.{total_at}
use Rattle.sqz_histogram.proofs.totals.totals_of.Given as goal

abbrev pub invariant-loop-share : goal.invariant-loop-share
invariant-loop-share l = l.totals.items ≡ map (total_at (object_count l.heap)) (take l.share-index l.shares)
