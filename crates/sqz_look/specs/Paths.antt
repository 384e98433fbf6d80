-- Steps of a path that are rows.
use Rattle.std.specs.Prelude.{ℕ, ◌<◌}
use Rattle.sqz_look.specs.declared.paths.PathStep.{PathStep}

-- the indexes of a step's objects are below the number of objects
abbrev pub IsInside : ℕ → PathStep → Type 0
IsInside count visible = (visible.owner < count) × (visible.step.object < count)
