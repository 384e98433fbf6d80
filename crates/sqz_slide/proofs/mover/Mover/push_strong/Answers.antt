use Rattle.std.proofs.Common.{arith}
use Rattle.sqz_slide.specs.Moved.{moved_field}
use Rattle.sqz_slide.proofs.AddressLemmas.{map_one_more}
use Rattle.sqz_slide.proofs.mover.Mover.push_strong.Goals as goal

pub loop-index-preserved : goal.loop-index-preserved
loop-index-preserved c marks places =
    map_one_more (moved_field c.args.self.now.heap.now marks) c.args.words.now.items c.args.fields.now c.loop-index.index c.moved_field.result
    _ _ (omega arith) (rw c.at.ensures at (c.moved_field.ensures.moved marks places)) (c.loop-index.invariant marks places) c.in_ok-push.ensures.items
