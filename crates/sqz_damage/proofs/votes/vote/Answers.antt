use Rattle.sqz_damage.proofs.VoteLemmas.{Casts-yes, Casts-no}
use Rattle.sqz_damage.proofs.votes.vote.Goals as goal

pub returns-in-Some : goal.returns-in-Some
returns-in-Some c =
    Casts-yes c.args.base c.args.address c.in-Some.k c.args.votes.now c.in-Some.ensures.0 c.in-Some.ensures.1

pub returns-in_default : goal.returns-in_default
returns-in_default c = Casts-no c.args.base c.args.address c.args.votes.now c.in_default.ensures
