use Rattle.std.proofs.lemmas.Result.{IfOk-weaker}
use Rattle.sqz_names.proofs.WordLemmas.{IsNamed-class, IsNamed-label}
use Rattle.sqz_names.proofs.words.named.is_named.Goals as goal

pub returns-then-branch-clause-sound : goal.returns-then-branch-clause-sound
returns-then-branch-clause-sound c is =
    IsNamed-class c.args.names.now.graph.heap.now c.args.names.now.graph.weak c.args.words.now c.args.object
    (c.in_ok-is_class_called.ensures.sound c.if-branch.true)

pub returns-clause-sound : goal.returns-clause-sound
returns-clause-sound c =
    IfOk-weaker c.is_labelled.result _ _
    (λ test sound is.
    IsNamed-label c.args.names.now.graph.heap.now c.args.names.now.graph.weak c.args.words.now c.args.object (sound is))
    c.is_labelled.ensures.sound
