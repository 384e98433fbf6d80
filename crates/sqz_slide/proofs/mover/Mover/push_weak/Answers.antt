use Rattle.std.proofs.Common.{arith}
use Rattle.sqz_slide.specs.Moved.{moved_weak}
use Rattle.sqz_slide.proofs.AddressLemmas.{map_one_more}
use Rattle.sqz_slide.proofs.mover.Mover.push_weak.Goals as goal

pub loop-index-preserved : goal.loop-index-preserved
loop-index-preserved c weak marks places nil =
    map_one_more (moved_weak c.args.self.now.heap.now weak marks) c.args.words.now.items c.args.fields.now c.loop-index.index
    c.moved_weak.result _ _ (omega arith) (rw c.at.ensures at (c.moved_weak.ensures weak marks places nil)) (c.loop-index.invariant weak marks places nil)
    c.in_ok-push.ensures.items
