use Rattle.std.proofs.Common.{length}
use Rattle.sqz_damage.specs.Votes.{votes_of}
use Rattle.sqz_damage.proofs.VoteLemmas.{AreAdded}
use Rattle.sqz_damage.proofs.voted.later_votes.Given as goal

abbrev pub invariant-loop-k : goal.invariant-loop-k
invariant-loop-k l = AreAdded (votes_of l.votes) (length l.votes) l.k l.later.items

abbrev pub decreases-loop-k : goal.decreases-loop-k
decreases-loop-k l = l.k
