use Rattle.std.proofs.Common.{◌≡◌, ◌+◌, ◌<◌, length}
use Rattle.std.specs.Prelude.{reverse, slice_index}
use Rattle.sqz_dominators.specs.Paths.{LeadsBySlots}
use Rattle.sqz_dominators.specs.Search.{IsSearchOf}
use Rattle.sqz_dominators.proofs.path.path_back.Given as goal

abbrev pub invariant-loop-next : goal.invariant-loop-next
invariant-loop-next l =
    record {
      inside : l.next < length l.search.found.items;
      leads : LeadsBySlots l.search.graph.heap.now l.search.graph.weak (slice_index l.search.found.items l.next) (reverse l.steps.items)
          (slice_index l.search.found.items l.place);
      deep : (law : IsSearchOf l.search.graph.heap.now l.search.graph.weak l.search.found.items l.search.places.items
          l.search.from.items (length l.search.found.items))
          → slice_index law.search.depths l.next + length l.steps.items ≡ slice_index law.search.depths l.place;
    }

abbrev pub decreases-loop-next : goal.decreases-loop-next
decreases-loop-next l = l.next
