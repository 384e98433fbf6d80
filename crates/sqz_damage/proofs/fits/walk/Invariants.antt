use Rattle.std.proofs.Common.{ℕ, ◌-◌, false, length}
use Rattle.std.specs.Prelude.{slice_index_or}
use Rattle.sqz_damage.specs.Votes.{votes_of}
use Rattle.sqz_damage.proofs.WalkLemmas.{IsFitUpTo}
use Rattle.sqz_damage.proofs.fits.walk.Given as goal

abbrev pub invariant-loop-p : goal.invariant-loop-p
invariant-loop-p l =
    IsFitUpTo (votes_of l.voted.votes.now) (λ (k : ℕ). slice_index_or l.slots k false)
    (length l.slots - length l.voted.words.now) l.voted.words.now l.steps l.p l.fits.items

abbrev pub decreases-loop-p : goal.decreases-loop-p
decreases-loop-p l = length l.voted.words.now - l.p
