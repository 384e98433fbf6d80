use Rattle.std.proofs.Common.{All, ◌<◌, ℕ}
use Rattle.sqz_image.specs.Objects.{object_count}
use Rattle.sqz_look.specs.Paths.{IsInside}
use Rattle.sqz_look.proofs.paths.visible_steps.Given as goal

abbrev pub invariant-loop-index : goal.invariant-loop-index
invariant-loop-index l =
    let count : ℕ = object_count l.inspector.live.graph.heap.now in
    (l.owner < count) × All (IsInside count) l.visible.items
