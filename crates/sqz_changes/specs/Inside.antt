-- The pairs that changes and steps are of.
use Rattle.std.specs.Prelude.{◌<◌, ℕ, Option, IfSome}
use Rattle.std.specs.List.{All}
use Rattle.sqz_changes.specs.declared.change.Change.{Change}
use Rattle.sqz_changes.specs.declared.change.Changes.{Changes}
use Rattle.sqz_changes.specs.declared.leads.Step.{Step}

-- the owner of a change, and the pair of its first difference, are among the first so many pairs
pub record IsInside (pairs : ℕ) (change : Change) : Type 0 where
  pub owner : change.owner < pairs
  pub first : change.first.pair < pairs

-- so is the pair that a step is from
abbrev pub IsStepInside : ℕ → Step → Type 0
IsStepInside pairs step = step.pair < pairs

-- so are all pairs of changes and of the steps between them
pub record AreInside (pairs : ℕ) (changes : Changes) : Type 0 where
  pub shown : All (IsInside pairs) changes.shown.items
  pub quiet : All (IsInside pairs) changes.quiet.items
  pub leads : All (λ (lead : Option Step). IfSome lead (IsStepInside pairs)) changes.leads.items
