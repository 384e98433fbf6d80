use Rattle.std.specs.Prelude.{replicate}
use Rattle.std.proofs.Common.{◌≡◌, ℕ, ◌+◌, ◌-◌, ◌<◌, suc, false, length, ap, ◌∙◌, inl, inr, arith}
use Rattle.std.proofs.lemmas.Bool.{cases_lt}
use Rattle.sqz_damage.specs.declared.step.Step.{Step}
use Rattle.sqz_damage.specs.Votes.{votes_of}
use Rattle.sqz_damage.specs.Steps.{AreSteps, IsStep, IsWayOn, cost_at}
use Rattle.sqz_damage.proofs.VoteLemmas.{sum_from-votes-le}
use Rattle.sqz_damage.proofs.WayLemmas.{AreSteps-none, IsWayOn-end, IsWayOn-skip, way-le, AreSteps-more, IsWayOn-ends, IsWayOn-goes_on}
use Rattle.sqz_damage.proofs.steps.steps_of.Goals as goal
use Rattle.sqz_damage.proofs.steps.steps_of.Goals.{After-deref}

pub loop-p-init : goal.loop-p-init
loop-p-init c =
    let words = c.args.voted.now.words.now in
    let votes = votes_of c.args.voted.now.votes.now in
    let steps = c.in_ok-steps.steps.items in
    let none : Step = record { cost = 0; end = c.len-count.result; is_gap = false } in
    let are = AreSteps-none votes words steps c.len-count.result
    (c.in_ok-steps.ensures.items_if_clones_equal (λ y is. is)
    ∙ ap (λ (n : ℕ). replicate (n + 1) none) c.len-count.ensures) in
    rw c.len-count.ensures
    (record { inside = omega arith; steps = are; way = IsWayOn-end votes words steps are })

pub skip-skipped-requires-clause-cheap : goal.skip-skipped-requires-clause-cheap
skip-skipped-requires-clause-cheap c =
    let words = c.args.voted.now.words.now in
    let votes = votes_of c.args.voted.now.votes.now in
    let so_far = c.loop-p.invariant in
    omega (
      arith,
      way-le votes words c.loop-p.steps.items c.loop-p.p c.loop-p.p c.loop-p.p c.loop-p.way so_far.steps so_far.inside so_far.way,
      sum_from-votes-le c.args.voted.now.votes.now c.loop-p.p (length words - c.loop-p.p),
      c.requires.few,
    )

-- the bound of the loop as the next number
next_word : (c : After-deref) → c.loop-p.p ≡ suc (c.loop-p.p - 1)
next_word c = omega (arith, c.loop-p-test.true)

-- the steps found so far
steps_so_far : (c : After-deref)
    → AreSteps (votes_of c.args.voted.now.votes.now) c.args.voted.now.words.now
    (suc (c.loop-p.p - 1)) c.loop-p.steps.items
steps_so_far c = rw (next_word c) at c.loop-p.invariant.steps

-- the best way that skips the word
skipped_so_far : (c : After-deref)
    → IsWayOn (votes_of c.args.voted.now.votes.now) c.args.voted.now.words.now
    (cost_at c.loop-p.steps.items) (c.loop-p.p - 1) (suc (c.loop-p.p - 1)) c.skip-skipped.result
skipped_so_far c =
    let words = c.args.voted.now.words.now in
    let way = rw (next_word c) at c.loop-p.invariant.way in
    IsWayOn-skip (votes_of c.args.voted.now.votes.now) words (cost_at c.loop-p.steps.items) (c.loop-p.p - 1)
    c.loop-p.way c.skip-skipped.result way c.skip-skipped.ensures.cost c.skip-skipped.ensures.end

pub best_step-step-requires-clause-steps : goal.best_step-step-requires-clause-steps
best_step-step-requires-clause-steps c =
    rw c.deref.ensures.value (steps_so_far (goal.at.best_step-step-requires-clause-steps c).After-deref)

pub best_step-step-requires-clause-way : goal.best_step-step-requires-clause-way
best_step-step-requires-clause-way c =
    rw c.deref.ensures.value (skipped_so_far (goal.at.best_step-step-requires-clause-way c).After-deref)

pub loop-p-preserved : goal.loop-p-preserved
loop-p-preserved c =
    let at = (goal.at.loop-p-preserved c).After-deref in
    let words = c.args.voted.now.words.now in
    let votes = votes_of c.args.voted.now.votes.now in
    let steps = c.loop-p.steps.items in
    let step = c.best_step-step.result in
    let skipped = c.skip-skipped.result in
    let p = c.loop-p.p - 1 in
    let inside = c.loop-p.invariant.inside in
    let lt : p < length words = omega (arith, c.loop-p-test.true) in
    let so_far = steps_so_far at in
    let is : IsStep votes words (cost_at steps) p step = rw c.deref.ensures.value at c.best_step-step.ensures in
    let way = skipped_so_far at in
    record {
      inside = omega arith;
      steps = AreSteps-more votes words p lt steps so_far step is;
      way =
          elim (cases_lt skipped.cost step.cost) [
            | inl dear ↦
                rw (c.end_or_skip-way.ensures.skips dear)
                (IsWayOn-goes_on votes words p lt steps so_far step skipped way dear)
            | inr cheap ↦
                rw (c.end_or_skip-way.ensures.ends cheap)
                (IsWayOn-ends votes words p lt steps so_far step skipped way cheap)
          ];
    }
