use Rattle.std.proofs.Common.{◌≡◌, ◌<◌}
use Rattle.std.specs.Prelude.{All}
use Rattle.sqz_image.specs.Objects.{object_count}
use Rattle.sqz_alike.specs.Holders.{holders_below}
use Rattle.sqz_alike.proofs.holders.find_holders.Given as goal

abbrev pub invariant-loop-object : goal.invariant-loop-object
invariant-loop-object l =
    record {
      rows : l.found.items ≡ holders_below l.growth l.object;
      inside : All (λ holder. holder.object < object_count l.growth.live.now.graph.heap.now) l.found.items;
    }
