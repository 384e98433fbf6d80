use Rattle.std.proofs.Common.{◌≡◌, [], false, length, ap, ◌∙◌}
use Rattle.std.specs.Prelude.{replicate}
use Rattle.std.specs.List.{flat_map}
use Rattle.std.proofs.lemmas.List.{with_items_is, length-replicate}
use Rattle.sqz_damage.specs.Votes.{votes_for, votes_of, AreVotes}
use Rattle.sqz_damage.specs.Readings.{voters_of}
use Rattle.sqz_damage.proofs.VoteLemmas.{AreVotes-none}
use Rattle.sqz_damage.proofs.ReadingLemmas.{IsBestReading-agree, votes_of-agree}
use Rattle.sqz_damage.proofs.gaps.gaps_of.Goals as goal

pub returns : goal.returns
returns c =
    let base = c.args.base in
    let words = c.args.words.now in
    let count = length words in
    let none : c.in_ok-votes.votes.items ≡ replicate count false =
    c.in_ok-votes.ensures.items_if_clones_equal (λ y is. is) ∙ ap (λ n. replicate n false) c.len.ensures in
    let old = c.deref_mut.result.now in
    let old_is : old ≡ replicate count false = c.deref_mut.ensures.value ∙ none in
    let new = c.vote_by_words.new.votes in
    let sized : length new ≡ count = c.vote_by_words.ensures.sized ∙ ap length old_is ∙ length-replicate count false in
    let all : AreVotes base words new = c.vote_by_words.ensures.added [] (AreVotes-none base old count old_is) in
    let items = with_items_is c.in_ok-votes.votes new (c.vote_by_words.ensures.sized ∙ c.deref_mut.ensures.len) in
    let passed : c.deref.result.now ≡ new = c.deref.ensures.value ∙ items in
    let first = c.in_ok-first.ensures in
    let second = c.in_ok-second.ensures in
    let third = c.in_ok-third.ensures in
    record {
      first = first.parts;
      second = second.parts;
      third = third.parts;
      first_best =
          IsBestReading-agree words (votes_of c.deref.result.now) (votes_for base words) first.parts
          (rw passed (votes_of-agree base words count new sized all)) first.best;
      second_best =
          IsBestReading-agree words (votes_of c.deref-2.result.now) (votes_for base (flat_map voters_of first.parts)) second.parts
          (rw c.deref-2.ensures.value
          (votes_of-agree base (flat_map voters_of first.parts) count c.in_ok-first.first.votes.items (first.sized ∙ c.len-2.ensures)
          first.votes_are))
          second.best;
      third_best =
          IsBestReading-agree words (votes_of c.deref-3.result.now) (votes_for base (flat_map voters_of second.parts)) third.parts
          (rw c.deref-3.ensures.value
          (votes_of-agree base (flat_map voters_of second.parts) count c.in_ok-second.second.votes.items
          (second.sized ∙ c.len-3.ensures) second.votes_are))
          third.best;
      gaps_are = third.gaps_are;
    }
