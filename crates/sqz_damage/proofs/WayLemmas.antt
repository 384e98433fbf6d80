-- The best steps with one more, and the best ways on within a gap.
-- Serves `steps`.
use Rattle.std.proofs.Common.{◌≡◌, ℕ, suc, ◌+◌, ◌-◌, ◌*◌, ◌^◌, ◌<◌, ◌≤◌, false, List, length, set}
use Rattle.std.proofs.Common.{sym, ap, ◌∙◌, arith, inl, inr}
use Rattle.std.proofs.lemmas.Bool.{cases_eq}
use Rattle.std.proofs.lemmas.List.{length-set, get_or-set_same, get_or-set_other}
use Rattle.std.proofs.lemmas.List.{length-replicate, get_or-replicate}
use Rattle.std.specs.Prelude.{replicate}
use Rattle.sqz_damage.specs.declared.step.Step.{Step}
use Rattle.sqz_damage.specs.declared.step.WayOn.{WayOn}
use Rattle.sqz_damage.specs.Readings.{part_cost, skip_cost}
use Rattle.sqz_damage.specs.Steps.{step_at, cost_at, no_step, part_of, IsStep, AreSteps, IsWayOn}
use Rattle.sqz_damage.proofs.ReadingLemmas.{skip_cost-more, skip_cost-none}

module _ (votes : ℕ → ℕ) (words : List ℕ) where
  -- ---- one step more

  -- what a step costs depends on later costs alone
  IsStep-same : (onward other : ℕ → ℕ) (p : ℕ) (step : Step) → ((q : ℕ) → p < q → other q ≡ onward q)
      → IsStep votes words onward p step → IsStep votes words other p step
  IsStep-same onward other p step same is =
      record {
        ahead = is.ahead;
        inside = is.inside;
        part = is.part;
        cost_is =
            is.cost_is ∙ ap (λ (n : ℕ). part_cost votes p (part_of words p step) + n) (sym (same step.end is.ahead));
        least = is.least;
      }

  module _ (p : ℕ) (lt : p < length words) (steps : List Step) (are : AreSteps votes words (suc p) steps)
      (step : Step) where
    abbrev more : List Step
    more = set steps p step

    -- later steps stay
    step_at-later : (q : ℕ) → p < q → step_at more q ≡ step_at steps q
    step_at-later q low = get_or-set_other steps p q step no_step (λ same. omega arith)

    cost_at-later : (q : ℕ) → p < q → cost_at more q ≡ cost_at steps q
    cost_at-later q low = ap (λ (s : Step). s.cost) (step_at-later q low)

    step_at-here : step_at more p ≡ step
    step_at-here = get_or-set_same steps p step no_step (let sized = are.sized in omega arith)

    pub AreSteps-more : IsStep votes words (cost_at steps) p step → AreSteps votes words p more
    AreSteps-more is =
        record {
          sized = length-set steps p step ∙ are.sized;
          last = cost_at-later (length words) lt ∙ are.last;
          each = λ q low high.
              elim (cases_eq q p) [
                | inl same ↦
                    rw (same, step_at-here)
                    (IsStep-same (cost_at steps) (cost_at more) p step cost_at-later is)
                | inr apart ↦
                    let above : p < q = omega arith in
                    rw (step_at-later q above)
                    (IsStep-same (cost_at steps) (cost_at more) q (step_at steps q) (λ r next. cost_at-later r (omega arith))
                    (are.each q above high))
              ];
        }

    -- ---- the best way on within a gap

    module _ (skipped : WayOn) (way : IsWayOn votes words (cost_at steps) p (suc p) skipped) where
      -- the gap ends
      pub IsWayOn-ends : step.cost ≤ skipped.cost
          → IsWayOn votes words (cost_at more) p p (record { cost = step.cost; end = p })
      IsWayOn-ends cheap =
          let here = ap (λ (s : Step). s.cost) step_at-here in
          record {
            late = omega arith;
            inside = omega arith;
            cost_is = omega (arith, here, skip_cost-none votes p);
            least = λ end low high.
                elim (cases_eq end p) [
                  | inl same ↦ rw same (omega (arith, here))
                  | inr apart ↦ omega (arith, way.least end (omega arith) high, cost_at-later end (omega arith))
                ];
          }

      -- or goes on
      pub IsWayOn-goes_on : skipped.cost < step.cost → IsWayOn votes words (cost_at more) p p skipped
      IsWayOn-goes_on dear =
          let here = ap (λ (s : Step). s.cost) step_at-here in
          let late = way.late in
          record {
            late = omega arith;
            inside = way.inside;
            cost_is = omega (arith, way.cost_is, cost_at-later skipped.end (omega arith));
            least = λ end low high.
                elim (cases_eq end p) [
                  | inl same ↦ rw same (omega (arith, here))
                  | inr apart ↦ omega (arith, way.least end (omega arith) high, cost_at-later end (omega arith))
                ];
          }

  -- a word is skipped
  pub IsWayOn-skip : (onward : ℕ → ℕ) (p : ℕ) (way skipped : WayOn) → IsWayOn votes words onward (suc p) (suc p) way
      → skipped.cost ≡ votes p * 2 ^ 30 + 1 + way.cost → skipped.end ≡ way.end
      → IsWayOn votes words onward p (suc p) skipped
  IsWayOn-skip onward p way skipped is cost end =
      let late = is.late in
      let same = ap onward end in
      record {
        late = omega arith;
        inside = omega (arith, is.inside);
        cost_is = rw end (omega (arith, cost, is.cost_is, skip_cost-more votes p way.end (omega arith)));
        least = λ e low high. omega (arith, cost, is.least e low high, skip_cost-more votes p e (omega arith));
      }

  -- at the end, where no step was found yet
  pub AreSteps-none : (steps : List Step) (end : ℕ)
      → steps ≡ replicate (length words + 1) (record { cost = 0; end = end; is_gap = false })
      → AreSteps votes words (length words) steps
  AreSteps-none steps end are =
      let none : Step = record { cost = 0; end = end; is_gap = false } in
      record {
        sized = ap length are ∙ length-replicate (length words + 1) none;
        last =
            ap (λ (ss : List Step). cost_at ss (length words)) are
            ∙ ap (λ (s : Step). s.cost)
            (get_or-replicate (length words + 1) (length words) none no_step (omega arith));
        each = λ q low high. absurd (omega arith);
      }

  pub IsWayOn-end : (steps : List Step) → AreSteps votes words (length words) steps
      → IsWayOn votes words (cost_at steps) (length words) (length words) (record { cost = 0; end = length words })
  IsWayOn-end steps are =
      record {
        late = omega arith;
        inside = omega arith;
        cost_is = omega (arith, are.last, skip_cost-none votes (length words));
        least = λ end low high. omega arith;
      }

  -- it costs no more than to skip all
  pub way-le : (steps : List Step) (p q soonest : ℕ) (way : WayOn) → AreSteps votes words q steps
      → soonest ≤ length words → IsWayOn votes words (cost_at steps) p soonest way
      → way.cost ≤ skip_cost votes p (length words - p)
  way-le steps p q soonest way are le is = omega (arith, is.least (length words) le (omega arith), are.last)
