use Rattle.std.proofs.Common.{◌≡◌}
use Rattle.std.specs.List.{flat_map, range_with_len}
use Rattle.sqz_facts.specs.Referrers.{referrers_from}
use Rattle.sqz_facts.proofs.referrers.referrers_of.Given as goal

abbrev pub invariant-loop-from : goal.invariant-loop-from
invariant-loop-from l =
    l.found.items ≡ flat_map (referrers_from l.live.graph.heap.now l.live.graph.weak l.live.marks l.fn.object) (range_with_len 0 l.from)
