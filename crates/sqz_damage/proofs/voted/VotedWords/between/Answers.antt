use Rattle.std.proofs.Common.{◌≡◌, ◌+◌, ◌-◌, length, slice_index, arith}
use Rattle.sqz_damage.specs.Votes.{votes_of, sum_from}
use Rattle.sqz_damage.proofs.VoteLemmas.{later-split, sum_from-votes-le}
use Rattle.sqz_damage.proofs.voted.VotedWords.between.Goals as goal
use Rattle.sqz_damage.proofs.voted.VotedWords.between.Goals.{After-result-2-1}

-- the votes from the first word on are those between and those from the end on
split : (c : After-result-2-1)
    → slice_index c.args.self.now.later.now c.args.first
    ≡ sum_from (votes_of c.args.self.now.votes.now) c.args.first (c.args.end - c.args.first)
    + slice_index c.args.self.now.later.now c.args.end
split c =
    let voted = c.args.self.now in
    later-split (votes_of voted.votes.now) (length voted.words.now) voted.later.now c.requires.voted.later
    c.args.first c.args.end c.requires.ordered c.requires.inside

pub overflow_sub-result : goal.overflow_sub-result
overflow_sub-result c = omega (arith, split (goal.at.overflow_sub-result c).After-result-2-1)

pub returns-clause-votes : goal.returns-clause-votes
returns-clause-votes c = omega (arith, split (goal.at.returns-clause-votes c).After-result-2-1)

pub returns-clause-few : goal.returns-clause-few
returns-clause-few c =
    let voted = c.args.self.now in
    omega (
      arith,
      split (goal.at.returns-clause-few c).After-result-2-1,
      sum_from-votes-le voted.votes.now c.args.first (c.args.end - c.args.first),
      c.requires.voted.few,
    )
