use Rattle.std.proofs.Common.{◌<◌}
use Rattle.sqz_image.specs.Objects.{object_count}
use Rattle.sqz_look_view.proofs.path_cells.path_text.Given as goal

abbrev pub invariant-loop-index : goal.invariant-loop-index
invariant-loop-index l = l.owner < object_count l.inspector.live.graph.heap.now
