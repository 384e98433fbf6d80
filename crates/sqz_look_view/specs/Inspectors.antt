-- The objects of an image that is inspected.
use Rattle.std.specs.Prelude.{ℕ, ◌<◌}
use Rattle.sqz_image.specs.Objects.{object_count}
use Rattle.sqz_look_view.specs.declared.inspector.Inspector.{Inspector}

-- an index is that of an object of the inspected image
abbrev pub IsObjectOf : Inspector → ℕ → Type 0
IsObjectOf inspector object = object < object_count inspector.live.graph.heap.now
