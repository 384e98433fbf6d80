-- The best reading of data words from each word on, by its first step.
use Rattle.std.specs.Prelude.{◌≡◌, ℕ, ◌+◌, ◌-◌, ◌<◌, ◌≤◌, false, if◌then◌else◌, List, length, take, drop, slice_index_or}
use Rattle.sqz_damage.specs.declared.step.Step.{Step}
use Rattle.sqz_damage.specs.declared.step.WayOn.{WayOn}
use Rattle.sqz_damage.specs.Readings.{Part, IsPart, IsReading, part_cost, skip_cost, cost_from}
use Rattle.sqz_damage.specs.Readings.{Chunk, Skipped}

abbrev pub no_step : Step
no_step = record { cost = 0; end = 0; is_gap = false }

abbrev pub step_at : List Step → ℕ → Step
step_at steps p = slice_index_or steps p no_step

-- what it costs to read on from each index
abbrev pub cost_at : List Step → ℕ → ℕ
cost_at steps p = (step_at steps p).cost

-- the part that a step from word `p` reads
abbrev pub part_of : List ℕ → ℕ → Step → Part
part_of words p step =
    let run = take (step.end - p) (drop p words) in if step.is_gap then Skipped run else Chunk run

-- no reading of the words from `p` on costs less
abbrev pub IsLeast : (ℕ → ℕ) → List ℕ → ℕ → ℕ → Type 0
IsLeast votes words p least = (parts : List Part) → IsReading (drop p words) parts → least ≤ cost_from votes p parts

-- the first step of a best reading from word `p` on; `onward` is what it costs to read on from each
-- later index
pub record IsStep (votes : ℕ → ℕ) (words : List ℕ) (onward : ℕ → ℕ) (p : ℕ) (step : Step) : Type 0 where
  pub ahead : p < step.end
  pub inside : step.end ≤ length words
  pub part : IsPart (part_of words p step)
  pub cost_is : step.cost ≡ part_cost votes p (part_of words p step) + onward step.end
  pub least : IsLeast votes words p step.cost

-- the best steps from each word from `p` on
pub record AreSteps (votes : ℕ → ℕ) (words : List ℕ) (p : ℕ) (steps : List Step) : Type 0 where
  pub sized : length steps ≡ length words + 1
  pub last : cost_at steps (length words) ≡ 0
  pub each : (q : ℕ) → p ≤ q → q < length words → IsStep votes words (cost_at steps) q (step_at steps q)

-- the best way on from index `p` within a gap that ends at index `soonest` or later
pub record IsWayOn (votes : ℕ → ℕ) (words : List ℕ) (onward : ℕ → ℕ) (p soonest : ℕ) (way : WayOn) : Type 0 where
  pub late : soonest ≤ way.end
  pub inside : way.end ≤ length words
  pub cost_is : way.cost ≡ skip_cost votes p (way.end - p) + onward way.end
  pub least : (end : ℕ) → soonest ≤ end → end ≤ length words → way.cost ≤ skip_cost votes p (end - p) + onward end
