use Rattle.std.proofs.Common.{◌≡◌, ◌<◌}
use Rattle.std.specs.List.{filter_map, range_with_len}
use Rattle.std.specs.Prelude.{All}
use Rattle.sqz_image.specs.Objects.{object_count}
use Rattle.sqz_look_explore.specs.Shown.{if_shown}
use Rattle.sqz_look_explore.proofs.shown.shown_objects.Given as goal

abbrev pub invariant-loop-object : goal.invariant-loop-object
invariant-loop-object l =
    record {
      shown : l.shown.items ≡ filter_map (if_shown l.live.marks l.dominators l.least) (range_with_len 0 l.object);
      inside : All (λ object. object < object_count l.live.graph.heap.now) l.shown.items;
    }
