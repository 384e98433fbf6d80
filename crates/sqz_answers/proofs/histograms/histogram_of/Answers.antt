use Rattle.std.proofs.Common.{sym, ◌∙◌}
use Rattle.sqz_trace.proofs.LiveWordLemmas.{length-live}
use Rattle.sqz_answers.proofs.HistogramLemmas.{totals-inside}
use Rattle.sqz_answers.proofs.histograms.histogram_of.Goals as goal

pub returns-clause-histogram : goal.returns-clause-histogram
returns-clause-histogram g c =
    record {
      totals = c.in_ok-totals.ensures;
      objects = c.count.ensures ∙ sym (length-live c.args.graph.heap.now c.args.marks.now c.requires);
      bytes = c.marked_bytes.ensures;
    }

pub returns-clause-inside : goal.returns-clause-inside
returns-clause-inside g c =
    totals-inside c.args.graph.heap.now c.args.graph.weak c.args.marks.now c.in_ok-totals.totals.items
    c.in_ok-totals.ensures
