use Rattle.std.proofs.Common.{◌≡◌, ◌+◌, ◌*◌}
use Rattle.sqz_trace.specs.Live.{live_words_below}
use Rattle.sqz_regions.specs.Entries.{AreEntriesOf}
use Rattle.sqz_regions.proofs.forward.places_between.Given as goal

abbrev pub invariant-loop-object : goal.invariant-loop-object
invariant-loop-object l =
    record {
      entries : AreEntriesOf l.heap l.marks l.from l.object l.places.items;
      next : l.next ≡ l.heap.base + 4 * live_words_below l.heap l.marks l.object;
    }
