use Rattle.std.proofs.Common.{take}
use Rattle.sqz_code.specs.Mentions.{AreAllMentioned}
use Rattle.sqz_code.proofs.selectors.picking.mark_mentioned.Given as goal

abbrev pub invariant-loop-name : goal.invariant-loop-name
invariant-loop-name l = AreAllMentioned l.graph.heap.now (take l.name-index l.methods) l.mentioned.items
