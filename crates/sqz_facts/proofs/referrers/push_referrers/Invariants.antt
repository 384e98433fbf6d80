use Rattle.std.proofs.Common.{◌≡◌, ◌++◌}
use Rattle.sqz_facts.specs.Referrers.{referrers_among}
use Rattle.sqz_facts.proofs.referrers.push_referrers.Given as goal

abbrev pub invariant-loop-slot : goal.invariant-loop-slot
invariant-loop-slot l = l.found.items ≡ l.initial.found.items ++ referrers_among l.edges l.from l.to l.yielded
