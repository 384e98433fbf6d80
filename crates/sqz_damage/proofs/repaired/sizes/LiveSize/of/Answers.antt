use Rattle.std.proofs.Common.{sym, ◌∙◌}
use Rattle.sqz_trace.proofs.LiveWordLemmas.{length-live}
use Rattle.sqz_damage.proofs.repaired.sizes.LiveSize.of.Goals as goal

pub returns : goal.returns
returns c =
    record {
      objects =
          c.count.ensures
          ∙ sym (length-live c.args.live.now.graph.heap.now c.args.live.now.marks c.args.live.now.one_each);
      bytes = c.marked_bytes.ensures;
    }
