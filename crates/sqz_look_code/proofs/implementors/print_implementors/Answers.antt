use Rattle.std.proofs.lemmas.List.Elements.{All-filter}
use Rattle.sqz_trace.specs.Graph.{is_marked}
use Rattle.sqz_names.specs.Names.{IsMethodName}
use Rattle.sqz_look_code.proofs.implementors.print_implementors.Goals as goal

pub print_methods-requires : goal.print_methods-requires
print_methods-requires g c =
    rw (c.deref-3.ensures.value, c.in_ok-found.ensures, c.deref-2.ensures.value)
    (All-filter (λ name. is_marked c.in_ok-selectors.selectors name.selector)
    (IsMethodName c.args.inspector.now.live.graph.heap.now c.args.inspector.now.live.graph.weak)
    c.in_ok-methods.methods.items c.in_ok-methods.ensures)
