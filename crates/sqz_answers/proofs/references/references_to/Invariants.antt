use Rattle.std.proofs.Common.{◌≡◌, ◌<◌, All, map, take}
use Rattle.sqz_image.specs.Objects.{object_count}
use Rattle.sqz_answers.specs.References.{reference_of}
use Rattle.sqz_answers.proofs.references.references_to.Given as goal

abbrev pub invariant-loop-referrer : goal.invariant-loop-referrer
invariant-loop-referrer l =
    record {
      references : l.found.items ≡ map (reference_of l.live.graph.heap.now) (take l.referrer-index l.referrer-items);
      inside : All (λ reference. reference.object < object_count l.live.graph.heap.now) l.found.items;
    }
