use Rattle.std.proofs.Common.{All, take}
use Rattle.sqz_names.specs.Names.{IsMethodName}
use Rattle.sqz_code.specs.Mentions.{MentionsOne}
use Rattle.sqz_names.specs.Picks.{ArePicked}
use Rattle.sqz_code.proofs.selectors.picking.senders_of.Given as goal

abbrev pub invariant-loop-name : goal.invariant-loop-name
invariant-loop-name l =
    ArePicked (λ name. MentionsOne l.graph.heap.now l.selectors name.method) (take l.name-index l.methods) l.senders.items
    × All (IsMethodName l.graph.heap.now l.graph.weak) l.senders.items
