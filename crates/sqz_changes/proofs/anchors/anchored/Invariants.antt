use Rattle.std.proofs.Common.{◌≡◌, length, take}
use Rattle.sqz_image.specs.Objects.{object_count}
use Rattle.sqz_changes.specs.Anchors.{AreAnchored}
use Rattle.sqz_changes.proofs.anchors.anchored.Given as goal

abbrev pub invariant-loop-pair : goal.invariant-loop-pair
invariant-loop-pair l = record {
  flags : AreAnchored l.comparison.matching.now.new_of.items (take l.pair-index l.named) l.anchored.items;
  sized : length l.anchored.items ≡ object_count l.comparison.old.now.graph.heap.now;
}
