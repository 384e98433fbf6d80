use Rattle.std.specs.Prelude.{sum_by}
use Rattle.sqz_code.proofs.StackLemmas.{AreFirst, unlisted}
use Rattle.sqz_code.proofs.stacks.stack.stack_from.Given as goal

abbrev pub invariant-loop-next : goal.invariant-loop-next
invariant-loop-next l = AreFirst l.heap l.fn.listed l.fn.first l.listed l.next l.contexts.items

abbrev pub decreases-loop-next : goal.decreases-loop-next
decreases-loop-next l = sum_by unlisted l.listed
