use Rattle.std.proofs.Common.{◌<◌}
use Rattle.sqz_image.specs.Objects.{object_count}
use Rattle.sqz_look_view.proofs.path_cells.print_rows.Given as goal

abbrev pub invariant-loop-step : goal.invariant-loop-step
invariant-loop-step g l = l.owner < object_count l.inspector.live.graph.heap.now
