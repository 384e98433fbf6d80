use Rattle.std.proofs.Common.{take}
use Rattle.sqz_damage.specs.Votes.{Casts}
use Rattle.sqz_damage.proofs.votes.vote_by_words.Given as goal

abbrev pub invariant-loop-k : goal.invariant-loop-k
invariant-loop-k l = Casts l.base (take l.k l.words) l.initial.votes l.votes
