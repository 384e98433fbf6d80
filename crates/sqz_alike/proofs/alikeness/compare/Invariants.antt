use Rattle.std.proofs.Common.{◌-◌, length}
use Rattle.sqz_alike.specs.Walk.{IsWalked}
use Rattle.sqz_alike.proofs.alikeness.compare.Given as goal

abbrev pub invariant-loop-next : goal.invariant-loop-next
invariant-loop-next l = IsWalked l.old l.new l.next l.matching

abbrev pub decreases-loop-next : goal.decreases-loop-next
decreases-loop-next l = length l.matching.new_of.items - l.next
