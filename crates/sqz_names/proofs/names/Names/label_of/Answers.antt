use Rattle.std.proofs.lemmas.Result.{IfOk-weaker}
use Rattle.sqz_names.proofs.LabelLemmas.{IsFirst-text}
use Rattle.sqz_names.proofs.names.Names.label_of.Goals as goal

pub returns-in-None-clause-first : goal.returns-in-None-clause-first
returns-in-None-clause-first c =
    IfOk-weaker c.text_label.result _ _
    (λ label is. IsFirst-text c.args.self.now.graph.heap.now c.args.self.now.graph.weak c.args.object label
    (c.in_ok-label.ensures.none c.in-None.is) is)
    c.text_label.ensures.text
