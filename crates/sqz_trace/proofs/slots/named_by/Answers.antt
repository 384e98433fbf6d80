use Rattle.std.proofs.Common.{ap, ◌∙◌}
use Rattle.sqz_trace.specs.Targets.{object_named}
use Rattle.sqz_trace.proofs.EdgeLemmas.{named_by-inside}
use Rattle.sqz_trace.proofs.slots.named_by.Goals as goal

pub returns-in-Pointer-clause-inside : goal.returns-in-Pointer-clause-inside
returns-in-Pointer-clause-inside c =
    named_by-inside c.args.heap.now c.args.word c.find.result (c.find.ensures ∙ ap (object_named c.args.heap.now) c.in-Pointer.ensures)
