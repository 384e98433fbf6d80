use Rattle.sqz_code.proofs.UnimplementedLemmas.{AreFound-more}
use Rattle.sqz_code.proofs.selectors.unimplemented.unimplemented_of.Goals as goal

pub loop-name-preserved : goal.loop-name-preserved
loop-name-preserved c =
    rw (c.in_ok-push_unimplemented.ensures, c.deref.ensures.value)
    (AreFound-more c.args.graph.heap.now c.args.graph.weak c.args.implemented.now c.args.methods.now c.loop-name.name-index _
    c.loop-name-test.true c.in_ok-sent.sent.items c.loop-name.found.items c.in_ok-sent.ensures.sent c.in_ok-sent.ensures.inside
    (c.requires c.loop-name.name-index _ c.loop-name-test.true) c.loop-name.invariant)
