use Rattle.std.proofs.Common.{◌≡◌, ◌<◌}
use Rattle.std.specs.List.{filter_map, range_with_len}
use Rattle.std.specs.Prelude.{All}
use Rattle.sqz_image.specs.Objects.{object_count}
use Rattle.sqz_code.specs.Processes.{if_live_of}
use Rattle.sqz_code.proofs.stacks.processes.processes_of.Given as goal

abbrev pub invariant-loop-object : goal.invariant-loop-object
invariant-loop-object l =
    record {
      processes : l.processes.items
          ≡ filter_map (if_live_of l.live.graph.heap.now l.live.graph.weak l.live.marks l.class) (range_with_len 0 l.object);
      inside : All (λ process. process < object_count l.live.graph.heap.now) l.processes.items;
    }
