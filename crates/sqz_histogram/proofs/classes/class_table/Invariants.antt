use Rattle.std.proofs.Common.{◌≡◌, ℕ, ◌<◌, length, get_or, None}
use Rattle.sqz_trace.specs.Strong.{compact_class}
use Rattle.sqz_histogram.proofs.classes.class_table.Given as goal

abbrev pub invariant-loop-index : goal.invariant-loop-index
invariant-loop-index l =
    record {
      sized : length l.classes.items ≡ l.index;
      each : (index : ℕ) → index < l.index → get_or l.classes.items index None ≡ compact_class l.graph.heap.now l.graph.weak index;
    }
