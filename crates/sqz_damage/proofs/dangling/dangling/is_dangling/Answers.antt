use Rattle.std.proofs.Common.{Some, ap, ◌∙◌}
use Rattle.sqz_trace.specs.Targets.{object_named}
use Rattle.sqz_trace.proofs.EdgeLemmas.{named_by-inside}
use Rattle.sqz_damage.proofs.dangling.dangling.is_dangling.Goals as goal

pub is_lost-requires : goal.is_lost-requires
is_lost-requires c =
    named_by-inside c.args.graph.heap.now c.args.word (Some c.in-Some.found)
    (c.in-Some.ensures ∙ ap (object_named c.args.graph.heap.now) c.in-Pointer.ensures)
