use Rattle.sqz_names.proofs.FoundLemmas.{IsFoundIn-about}
use Rattle.sqz_names.proofs.WordLemmas.{IsClassCalled-inside}
use Rattle.sqz_names.proofs.words.classes.the_class.Goals as goal

pub returns-then-not-is_empty-clause-inside : goal.returns-then-not-is_empty-clause-inside
returns-then-not-is_empty-clause-inside c =
    IsFoundIn-about c.args.names.now.graph.heap.now c.in_ok-classes.classes.items
    (λ i d lt. IsClassCalled-inside c.args.names.now.graph.heap.now c.args.names.now.graph.weak c.args.words.now _
    (c.in_ok-classes.ensures.named i d lt)) c.the_one.result c.the_one.ensures.about
