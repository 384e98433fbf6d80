use Rattle.std.proofs.Common.{◌≡◌, length}
use Rattle.sqz_facts.specs.FirstReferrers.{AreFirstTwo}
use Rattle.sqz_facts.proofs.FirstReferrerLemmas.{references_below}
use Rattle.sqz_facts.proofs.first_referrers.first_referrers_of.Given as goal

abbrev pub invariant-loop-from : goal.invariant-loop-from
invariant-loop-from l = record {
  same_length : length l.firsts.items ≡ length l.objects;
  begun : AreFirstTwo l.rows.items (references_below l.live.graph.heap.now l.live.graph.weak l.live.marks l.from) l.firsts.items;
}
