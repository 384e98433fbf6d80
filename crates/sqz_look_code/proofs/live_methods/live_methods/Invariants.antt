use Rattle.std.proofs.Common.{All}
use Rattle.sqz_names.specs.Names.{IsMethodName}
use Rattle.sqz_look_code.proofs.live_methods.live_methods.Given as goal

abbrev pub invariant-loop-name : goal.invariant-loop-name
invariant-loop-name l = All (IsMethodName l.inspector.live.graph.heap.now l.inspector.live.graph.weak) l.methods.items
