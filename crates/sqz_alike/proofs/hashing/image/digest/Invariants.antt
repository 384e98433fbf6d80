use Rattle.std.proofs.Common.{◌-◌}
use Rattle.sqz_image.specs.Objects.{object_count}
use Rattle.sqz_alike.specs.Hashing.{IsHashed}
use Rattle.sqz_alike.proofs.hashing.image.digest.Given as goal

abbrev pub invariant-loop-next : goal.invariant-loop-next
invariant-loop-next l = IsHashed l.live l.next l.walk l.hasher

abbrev pub decreases-loop-next : goal.decreases-loop-next
decreases-loop-next l = object_count l.live.graph.heap.now - l.next
