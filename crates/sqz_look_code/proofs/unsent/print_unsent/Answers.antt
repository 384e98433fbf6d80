use Rattle.std.specs.Prelude.{not}
use Rattle.std.proofs.lemmas.List.Elements.{All-filter}
use Rattle.sqz_trace.specs.Graph.{is_marked}
use Rattle.sqz_names.specs.Names.{IsMethodName}
use Rattle.sqz_look_code.proofs.unsent.print_unsent.Goals as goal

pub print_methods-requires : goal.print_methods-requires
print_methods-requires g c =
    rw (c.deref-3.ensures.value, c.in_ok-unsent.ensures, c.deref-2.ensures.value)
    (All-filter (λ name. not (is_marked c.in_ok-mentioned.mentioned name.selector))
    (IsMethodName c.args.inspector.now.live.graph.heap.now c.args.inspector.now.live.graph.weak)
    c.in_ok-live_methods.field-0.items c.in_ok-live_methods.ensures)
