-- What keeps an object: a shortest path to it, and what the objects on the path retain.
use Rattle.std.specs.Prelude.{◌≡◌, ◌↔◌, ℕ, true, false, All, List, [], ◌∷◌}
use Rattle.sqz_image.specs.Objects.{Memory}
use Rattle.sqz_trace.specs.declared.weak.Weak.{Weak}
use Rattle.sqz_trace.specs.declared.weak.Weak.TheVariants.{Clear}
use Rattle.sqz_dominators.specs.declared.path.Step.{Step}
use Rattle.sqz_dominators.specs.Paths.{IsShortestPath, IsUnreachable}
use Rattle.sqz_dominators.specs.Children.{retained_bytes}
use Rattle.sqz_dominators.specs.Retained.{DominatorTree, AreDominators}
use Rattle.sqz_dominators.specs.declared.why.HoldingPath.{HoldingPath}
use Rattle.sqz_dominators.specs.declared.why.WhyStep.{WhyStep}
use Rattle.sqz_dominators.specs.Weakness.{is_weak_slot}

-- a step from an object, with whether its slot is weak and what its object retains
abbrev pub why_step : Memory → DominatorTree → ℕ → Step → WhyStep
why_step memory tree owner step = record {
  slot = step.slot;
  is_weak = is_weak_slot memory owner step.slot;
  object = step.object;
  retained = retained_bytes tree step.object;
}

-- the steps of a path that starts at an object
abbrev pub why_steps : Memory → DominatorTree → ℕ → List Step → List WhyStep
why_steps memory tree start [] = []
why_steps memory tree start (step ∷ steps) = why_step memory tree start step ∷ why_steps memory tree step.object steps

-- no step is weak
abbrev pub AreStrong : List WhyStep → Type 0
AreStrong steps = All (λ step. step.is_weak ≡ false) steps

-- a shortest path, and what the objects on it retain; each path to the object has a weak step if
-- none leads to it once weak slots are cleared
pub record IsHoldingPath (memory : Memory) (weak : Weak) (object : ℕ) (path : HoldingPath) : Type 0 where
  pub steps : List Step
  pub shortest : IsShortestPath memory weak object steps
  pub tree : DominatorTree
  pub dominators : AreDominators memory weak tree
  pub live_bytes : path.live_bytes ≡ retained_bytes tree shortest.start
  pub retained : path.retained ≡ retained_bytes tree object
  pub weakly : (path.is_weakly_held ≡ true) ↔ IsUnreachable memory Clear object
  pub rows : path.steps.items ≡ why_steps memory tree shortest.start steps
