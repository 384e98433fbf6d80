use Rattle.sqz_alike.proofs.SeenLemmas.{nil_is_live}
use Rattle.sqz_alike.proofs.seen.seen_target.Goals as goal

pub returns-else-has-clause-live : goal.returns-else-has-clause-live
returns-else-has-clause-live c =
    let live = c.args.live.now in
    nil_is_live live.graph.heap.now live.graph.weak live.marks live.reachable c.nil.result c.nil.ensures.nil
