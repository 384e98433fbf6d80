-- What holds in every state of marking, in every interleaving of the events.
use Rattle.std.specs.Prelude.{◌≡◌, ℕ, ◌<◌, ◌≤◌, ◌==◌, if◌then◌else◌, true, List, length, sum_by, slice_index}
use Rattle.sqz_trace.specs.declared.shades.Shade.{Shade}
use Rattle.sqz_trace.specs.declared.shades.Shade.TheVariants.{White, Grey, Black}
use Rattle.sqz_trace.specs.Graph.{is_marked}
use Rattle.sqz_trace.specs.Shades.{shade_at, marks_of, AreLawful}
use Rattle.sqz_marks.specs.declared.view.View.{View}
use Rattle.sqz_marks.specs.Core.{Marking, State, times, HasWon, HasSeen, HasBlackened, pass_at, spent}

-- how often an object of this shade was won
abbrev pub wins : Shade → ℕ
wins White = 0
wins Grey = 1
wins Black = 1

-- how often all passes together won an object, and how often they know it to be black
abbrev pub times_won : List View → ℕ → ℕ
times_won passes object = sum_by (λ view. times object view.won) passes

abbrev pub times_blackened : List View → ℕ → ℕ
times_blackened passes object = sum_by (λ view. times object view.blackened) passes

-- the number of words of an object in this region: all of them if the object begins there, else 0
abbrev pub words_at : Marking → ℕ → ℕ → ℕ
words_at marking region object = if marking.region object == region then marking.words object else 0

-- the number of words that the objects of a list have in a region, each counted as often as it
-- occurs
abbrev pub words_listed : Marking → ℕ → List ℕ → ℕ
words_listed marking region list = sum_by (words_at marking region) list

-- the number of words that all passes together counted in a region
abbrev pub total_counted : Marking → List View → ℕ → ℕ
total_counted marking passes region = sum_by (λ view. words_listed marking region view.counted) passes

-- the total weight of all passes
abbrev pub total_weight : List View → ℕ
total_weight passes = sum_by (λ view. view.weight) passes

-- what a pass knows is true: it has seen what it won, what it has seen is marked, it counted no
-- object more often than it won it, and what it blackened is black; a pass without weight knows
-- nothing
pub record KnowsTruth (shades : List Shade) (view : View) : Type 0 where
  pub won : (object : ℕ) → HasWon view object → HasSeen view object
  pub seen : (object : ℕ) → HasSeen view object → is_marked (marks_of shades) object ≡ true
  pub counted : (object : ℕ) → times object view.counted ≤ times object view.won
  pub blackened : (object : ℕ) → HasBlackened view object → shade_at shades object ≡ Black
  pub idle : view.weight ≡ 0 → view ≡ spent

-- the sum of each region is what was counted there
pub record AreCounted (marking : Marking) (state : State) : Type 0 where
  pub sized : length state.sums ≡ marking.regions
  pub each : (region : ℕ) → region < marking.regions → slice_index state.sums region ≡ total_counted marking state.passes region

-- the start is marked, every marked object is reachable, and every target of a black object is
-- marked; exactly one pass won each marked object, once, and none won an unmarked one; for each
-- black object some pass knows that it is black; what passes know is true; the regions' sums are
-- what passes counted; and the total weight is the number of workers
pub record IsLawful (marking : Marking) (state : State) : Type 0 where
  pub shades : AreLawful marking.graph state.shades
  pub won : (object : ℕ) → times_won state.passes object ≡ wins (shade_at state.shades object)
  pub black : (object : ℕ) → shade_at state.shades object ≡ Black → 0 < times_blackened state.passes object
  pub truth : (pass : ℕ) → KnowsTruth state.shades (pass_at state.passes pass)
  pub sums : AreCounted marking state
  pub weights : total_weight state.passes ≡ marking.workers
