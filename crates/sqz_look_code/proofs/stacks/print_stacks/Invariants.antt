use Rattle.std.proofs.Common.{◌≡◌, length}
use Rattle.sqz_image.specs.Objects.{object_count}
use Rattle.sqz_look_code.proofs.stacks.print_stacks.Given as goal

abbrev pub invariant-loop-process : goal.invariant-loop-process
invariant-loop-process g l = length l.listed.items ≡ object_count l.inspector.live.graph.heap.now
