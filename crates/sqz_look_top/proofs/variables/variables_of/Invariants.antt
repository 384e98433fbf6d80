use Rattle.std.proofs.Common.{◌≡◌, length}
use Rattle.sqz_image.specs.Objects.{object_count}
use Rattle.sqz_look_top.proofs.variables.variables_of.Given as goal

abbrev pub invariant-loop-name : goal.invariant-loop-name
invariant-loop-name l = length l.parts.holders ≡ object_count l.inspector.live.graph.heap.now
