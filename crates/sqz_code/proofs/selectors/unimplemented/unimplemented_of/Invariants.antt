use Rattle.std.proofs.Common.{take}
use Rattle.sqz_code.proofs.UnimplementedLemmas.{AreFound}
use Rattle.sqz_code.proofs.selectors.unimplemented.unimplemented_of.Given as goal

abbrev pub invariant-loop-name : goal.invariant-loop-name
invariant-loop-name l = AreFound l.graph.heap.now l.graph.weak l.implemented (take l.name-index l.methods) l.found.items
