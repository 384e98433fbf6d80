use Rattle.std.proofs.Common.{◌≡◌, ◌++◌, ◌-◌, ◌<◌, Option, Some, None, ℕ, Bool, false, length, take, drop, refl, arith}
use Rattle.std.specs.Option.{option_to_list}
use Rattle.std.specs.Prelude.{slice_index_or}
use Rattle.std.proofs.lemmas.Bool.{not-true, not-false}
use Rattle.std.proofs.lemmas.List.{append-nil}
use Rattle.sqz_damage.specs.declared.fit.Fit.{Fit}
use Rattle.sqz_damage.specs.Losses.{fits_at}
use Rattle.sqz_damage.specs.Readings.{Chunk}
use Rattle.sqz_damage.specs.Steps.{step_at}
use Rattle.sqz_damage.specs.Votes.{votes_of}
use Rattle.sqz_damage.proofs.WalkLemmas.{IsFitUpTo, fits_over_chunk, fits_over_gap, IsBestReading-at}
use Rattle.sqz_damage.proofs.fits.walk.Goals as goal
use Rattle.sqz_damage.proofs.fits.walk.Goals.{In-loop-p}

abbrev has : In-loop-p → ℕ → Bool
has c k = slice_index_or c.args.slots.now k false

abbrev lost : In-loop-p → ℕ
lost c = length c.args.slots.now - length c.args.voted.now.words.now

-- the step reads a chunk
over_chunk : (c : In-loop-p) → (step_at c.args.steps.now c.loop-p.p).is_gap ≡ false → (fit : Option Fit)
    → option_to_list fit
    ≡ fits_at (has c) (lost c) c.loop-p.p
    (Chunk (take ((step_at c.args.steps.now c.loop-p.p).end - c.loop-p.p) (drop c.loop-p.p c.args.voted.now.words.now)))
    → IsFitUpTo (votes_of c.args.voted.now.votes.now) (has c) (lost c) c.args.voted.now.words.now c.args.steps.now
    (step_at c.args.steps.now c.loop-p.p).end (c.loop-p.fits.items ++ option_to_list fit)
over_chunk c reads fit found =
    let words = c.args.voted.now.words.now in
    let votes = votes_of c.args.voted.now.votes.now in
    let steps = c.args.steps.now in
    let p = c.loop-p.p in
    let lt : p < length words = omega (arith, c.len.ensures, c.loop-p-test.true) in
    fits_over_chunk votes (has c) (lost c) words steps p c.loop-p.fits.items c.loop-p.invariant (step_at steps p) refl
    (c.requires.steps.each p (omega arith) lt) reads fit found

pub loop-p-preserved-in_ok-push : goal.loop-p-preserved-in_ok-push
loop-p-preserved-in_ok-push c =
    rw c.in_ok-push.ensures.items
    (over_chunk (goal.at.loop-p-preserved-in_ok-push c).In-loop-p (not-true _ c.if-not-step.true) (Some c.in-Some.fit)
    c.in-Some.ensures)

pub loop-p-preserved-in_default : goal.loop-p-preserved-in_default
loop-p-preserved-in_default c =
    rw append-nil at
    (over_chunk (goal.at.loop-p-preserved-in_default c).In-loop-p (not-true _ c.if-not-step.true) None c.in_default.ensures)

pub loop-p-preserved : goal.loop-p-preserved
loop-p-preserved c =
    let words = c.args.voted.now.words.now in
    let votes = votes_of c.args.voted.now.votes.now in
    let steps = c.args.steps.now in
    let p = c.loop-p.p in
    let lt : p < length words = omega (arith, c.len.ensures, c.loop-p-test.true) in
    fits_over_gap votes _ _ words steps p c.loop-p.fits.items c.loop-p.invariant (step_at steps p) refl
    (c.requires.steps.each p (omega arith) lt) (not-false _ c.if-not-step.false)

pub returns : goal.returns
returns c =
    let words = c.args.voted.now.words.now in
    let votes = votes_of c.args.voted.now.votes.now in
    let so_far = c.loop-p.invariant in
    record {
      parts = so_far.parts;
      best =
          IsBestReading-at votes words c.args.steps.now c.loop-p.p so_far.parts so_far.path c.requires.steps
          (omega (arith, c.len.ensures, c.loop-p-test.false));
      fits_are = so_far.fits_are;
    }
