use Rattle.sqz_facts.specs.Members.{AreMembersBelow}
use Rattle.sqz_facts.proofs.members.members_of.Given as goal

abbrev pub invariant-loop-object : goal.invariant-loop-object
invariant-loop-object l = AreMembersBelow l.graph.heap.now l.graph.weak l.marks l.group l.object l.members.items
