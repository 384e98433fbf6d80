use Rattle.std.proofs.Common.{subst}
use Rattle.sqz_names.specs.declared.words.found.Found.TheVariants.{One}
use Rattle.sqz_names.specs.Words.{IsGroup}
use Rattle.sqz_look_cli.proofs.meant.the_class.Goals as goal

pub returns-in-One : goal.returns-in-One
returns-in-One c =
    let inspector = c.args.inspector.now in
    let words = c.args.words.now in
    subst (λ graph. IsGroup graph.heap.now graph.weak inspector.live.marks words (One c.in-One.group)) inspector.one_graph
    (subst (IsGroup inspector.names.graph.heap.now inspector.names.graph.weak inspector.live.marks words) c.in-One.is
    c.in_ok-group.ensures.found)
