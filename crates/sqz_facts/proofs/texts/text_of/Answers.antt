use Rattle.std.proofs.Common.{ap, sym, ◌∙◌}
use Rattle.sqz_object.specs.Layout.{layout}
use Rattle.sqz_facts.proofs.TextLemmas.{text_of-none}
use Rattle.sqz_facts.proofs.texts.text_of.Goals as goal

pub returns-in_default : goal.returns-in_default
returns-in_default c =
    sym (text_of-none c.args.graph.heap.now c.args.graph.weak c.args.object
    (λ unused e. c.in_default.not-Bytes unused (c.layout.ensures ∙ ap layout c.object.ensures ∙ e)))
