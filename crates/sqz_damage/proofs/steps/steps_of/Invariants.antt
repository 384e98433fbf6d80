use Rattle.std.proofs.Common.{◌≤◌, length}
use Rattle.sqz_damage.specs.Votes.{votes_of}
use Rattle.sqz_damage.specs.Steps.{AreSteps, IsWayOn, cost_at}
use Rattle.sqz_damage.proofs.steps.steps_of.Given as goal

abbrev pub invariant-loop-p : goal.invariant-loop-p
invariant-loop-p l =
    record {
      inside : l.p ≤ length l.voted.words.now;
      steps : AreSteps (votes_of l.voted.votes.now) l.voted.words.now l.p l.steps.items;
      way : IsWayOn (votes_of l.voted.votes.now) l.voted.words.now (cost_at l.steps.items) l.p l.p l.way;
    }

abbrev pub decreases-loop-p : goal.decreases-loop-p
decreases-loop-p l = l.p
