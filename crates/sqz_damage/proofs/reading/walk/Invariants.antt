use Rattle.std.proofs.Common.{◌-◌, length}
use Rattle.sqz_damage.specs.Votes.{votes_of}
use Rattle.sqz_damage.proofs.WalkLemmas.{IsReadUpTo}
use Rattle.sqz_damage.proofs.reading.walk.Given as goal

abbrev pub invariant-loop-p : goal.invariant-loop-p
invariant-loop-p l =
    IsReadUpTo l.base l.count (votes_of l.voted.votes.now) l.voted.words.now l.steps l.p l.gaps.items l.votes.items

abbrev pub decreases-loop-p : goal.decreases-loop-p
decreases-loop-p l = length l.voted.words.now - l.p
