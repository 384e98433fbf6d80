use Rattle.std.proofs.Common.{◌≡◌, ◌<◌, false, length, refl, ap, ◌∙◌, arith}
use Rattle.std.specs.Prelude.{replicate}
use Rattle.std.proofs.lemmas.List.{with_items_is, length-replicate}
use Rattle.sqz_damage.specs.Votes.{votes_of}
use Rattle.sqz_damage.specs.Steps.{step_at}
use Rattle.sqz_damage.proofs.VoteLemmas.{AreVotes-none}
use Rattle.sqz_damage.proofs.WalkLemmas.{IsReadUpTo-none, step_over_chunk, step_over_gap, IsBestReading-at}
use Rattle.sqz_damage.proofs.reading.walk.Goals as goal

pub loop-p-init : goal.loop-p-init
loop-p-init c =
    let words = c.args.voted.now.words.now in
    let items : c.in_ok-votes.votes.items ≡ replicate c.args.count false =
    c.in_ok-votes.ensures.items_if_clones_equal (λ y is. is) in
    rw c.new-gaps.ensures.items
    (IsReadUpTo-none c.args.base c.args.count (votes_of c.args.voted.now.votes.now) words c.args.steps.now
    c.in_ok-votes.votes.items (ap length items ∙ length-replicate c.args.count false)
    (AreVotes-none c.args.base c.in_ok-votes.votes.items c.args.count items))

pub loop-p-preserved-in_ok-push : goal.loop-p-preserved-in_ok-push
loop-p-preserved-in_ok-push c =
    let words = c.args.voted.now.words.now in
    let votes = votes_of c.args.voted.now.votes.now in
    let steps = c.args.steps.now in
    let p = c.loop-p.p in
    let lt : p < length words = omega (arith, c.len.ensures, c.loop-p-test.true) in
    let step = step_at steps p in
    rw c.in_ok-push.ensures.items
    (step_over_gap c.args.base c.args.count votes words steps p c.loop-p.gaps.items c.loop-p.votes.items c.loop-p.invariant step refl
    (c.requires.steps.each p (omega arith) lt) c.if-step.true)

pub loop-p-preserved : goal.loop-p-preserved
loop-p-preserved c =
    let words = c.args.voted.now.words.now in
    let votes = votes_of c.args.voted.now.votes.now in
    let steps = c.args.steps.now in
    let p = c.loop-p.p in
    let lt : p < length words = omega (arith, c.len.ensures, c.loop-p-test.true) in
    let step = step_at steps p in
    let items =
    with_items_is c.loop-p.votes c.vote_by_chunk.new.votes (c.vote_by_chunk.ensures.sized ∙ c.deref_mut.ensures.len) in
    rw items
    (step_over_chunk c.args.base c.args.count votes words steps p c.loop-p.gaps.items c.loop-p.votes.items c.loop-p.invariant step refl
    (c.requires.steps.each p (omega arith) lt) c.if-step.false c.vote_by_chunk.new.votes
    (rw c.deref_mut.ensures.value at c.vote_by_chunk.ensures))

pub returns : goal.returns
returns c =
    let words = c.args.voted.now.words.now in
    let votes = votes_of c.args.voted.now.votes.now in
    let so_far = c.loop-p.invariant in
    record {
      parts = so_far.parts;
      best =
          IsBestReading-at votes words c.args.steps.now c.loop-p.p so_far.parts so_far.path c.requires.steps
          (omega (arith, c.len.ensures, c.loop-p-test.false));
      gaps_are = so_far.gaps_are;
      sized = so_far.sized;
      votes_are = so_far.votes_are;
    }
