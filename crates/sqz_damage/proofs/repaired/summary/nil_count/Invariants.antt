use Rattle.std.proofs.Common.{◌≡◌, take}
use Rattle.std.specs.List.{count_by}
use Rattle.sqz_damage.specs.Summaries.{becomes_nil}
use Rattle.sqz_damage.proofs.repaired.summary.nil_count.Given as goal

abbrev pub invariant-loop-patch : goal.invariant-loop-patch
invariant-loop-patch l = l.count ≡ count_by becomes_nil (take l.patch-index l.patches)
