use Rattle.std.proofs.Common.{◌∷◌, [], ℕ, subst, arith}
use Rattle.sqz_damage.specs.Votes.{Casts}
use Rattle.sqz_damage.proofs.VoteLemmas.{Casts-more}
use Rattle.sqz_damage.proofs.votes.vote_by_words.Goals as goal

pub loop-k-preserved : goal.loop-k-preserved
loop-k-preserved c =
    Casts-more c.args.base c.args.words.now c.loop-k.k c.args.votes.now c.loop-k.votes c.vote.new.votes
    (omega (arith, c.len-k-end.ensures, c.loop-k-test.true)) c.loop-k.invariant
    (subst (λ (word : ℕ). Casts c.args.base (word ∷ []) c.loop-k.votes c.vote.new.votes) c.at.ensures c.vote.ensures)
