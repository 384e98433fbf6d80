use Rattle.std.proofs.Common.{◌≡◌, ◌+◌, ◌-◌, ◌<◌, suc, length, slice_index, ap, arith}
use Rattle.std.proofs.lemmas.List.{get_or_read}
use Rattle.sqz_damage.specs.Votes.{votes_of}
use Rattle.sqz_damage.proofs.VoteLemmas.{AreAdded, AreAdded-more, sum_from-votes-le}
use Rattle.sqz_damage.proofs.voted.later_votes.Goals as goal
use Rattle.sqz_damage.proofs.voted.later_votes.Goals.{then-votes-k, else-votes-k}

pub overflow_add-index : goal.overflow_add-index
overflow_add-index c =
    let later = c.loop-k.later.items in
    let count = length c.args.votes.now in
    let k = c.loop-k.k - 1 in
    let next : k + 1 ≡ c.loop-k.k = omega (arith, c.loop-k-test.true) in
    let read =
    get_or_read later (k + 1) c.index.result.now (omega (arith, c.loop-k.invariant.sized, c.loop-k.invariant.inside, next))
    c.index.ensures 0 in
    omega (
      arith,
      read,
      ap (slice_index later) next,
      c.loop-k.invariant.done c.loop-k.k (omega arith) c.loop-k.invariant.inside,
      sum_from-votes-le c.args.votes.now c.loop-k.k (count - c.loop-k.k),
      c.requires,
    )

pub loop-k-preserved : goal.loop-k-preserved
loop-k-preserved c =
    let votes = c.args.votes.now in
    let count = length votes in
    let later = c.loop-k.later.items in
    let k = c.loop-k.k - 1 in
    let same : c.loop-k.k ≡ suc k = omega (arith, c.loop-k-test.true) in
    let next : k + 1 ≡ suc k = omega arith in
    let so_far : AreAdded (votes_of votes) count (suc k) later = rw same at c.loop-k.invariant in
    let room : k + 1 < length later = omega (arith, so_far.sized, so_far.inside) in
    AreAdded-more (votes_of votes) count later k so_far c.if-votes-k.t-23
    (elim c.if-votes-k.branch [
      | then-votes-k w ↦
          rw (w.t-23-is, w.if-votes-k.true)
          (omega (arith, get_or_read later (k + 1) w.index.result.now room w.index.ensures 0, ap (slice_index later) next))
      | else-votes-k w ↦
          rw (w.t-23-is, w.if-votes-k.false)
          (omega (
            arith,
            get_or_read later (k + 1) w.index-else-votes-k.result.now room w.index-else-votes-k.ensures 0,
            ap (slice_index later) next,
          ))
    ])
