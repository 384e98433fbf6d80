use Rattle.std.proofs.Common.{◌≡◌, ◌+◌, ◌∙◌, [], List, Bool, false, length, ap, sym, subst, arith}
use Rattle.std.specs.Prelude.{replicate}
use Rattle.std.proofs.lemmas.List.{with_items_is, length-replicate}
use Rattle.sqz_damage.specs.declared.fit.Fit.{Fit}
use Rattle.sqz_damage.specs.Counting.{AreFits}
use Rattle.sqz_damage.specs.Losses.{IsLossBefore}
use Rattle.sqz_damage.specs.Votes.{AreVotes, votes_of}
use Rattle.sqz_damage.proofs.FitLemmas.{AreFits-le, IsEither, IsLoss-found}
use Rattle.sqz_damage.proofs.VoteLemmas.{AreVotes-none}
use Rattle.sqz_damage.proofs.loss.loss_in.Goals as goal

pub place_of-requires : goal.place_of-requires
place_of-requires c =
    omega (
      arith,
      ap length c.deref-6.ensures.value,
      AreFits-le (votes_of c.deref-4.result.now) c.deref-5.result.now c.args.words.now c.in_ok-fits.fits.items c.in_ok-fits.ensures,
      c.requires.few,
    )

pub returns : goal.returns
returns c =
    let base = c.args.base in
    let words = c.args.words.now in
    let count = length words + c.args.lost in
    let none : c.in_ok-votes.votes.items ≡ replicate count false =
    c.in_ok-votes.ensures.items_if_clones_equal (λ y is. is) ∙ ap (λ n. replicate (n + c.args.lost) false) c.len.ensures in
    let old = c.deref_mut.result.now in
    let old_is : old ≡ replicate count false = c.deref_mut.ensures.value ∙ none in
    let new = c.vote_by_words.new.votes in
    let sized : length new ≡ count = c.vote_by_words.ensures.sized ∙ ap length old_is ∙ length-replicate count false in
    let all : AreVotes base words new = c.vote_by_words.ensures.added [] (AreVotes-none base old count old_is) in
    let items = with_items_is c.in_ok-votes.votes new (c.vote_by_words.ensures.sized ∙ c.deref_mut.ensures.len) in
    let passed : c.deref.result.now ≡ new = c.deref.ensures.value ∙ items in
    let first = c.in_ok-first.first in
    let slots = first.votes.items in
    let either : IsEither new (length words) c.deref-2.result.now =
    subst (λ (found : List Bool). IsEither new (length words) found) (sym c.deref-2.ensures.value)
    (subst (λ (votes : List Bool). IsEither votes (length words) c.in_ok-either.either.items) passed
    (rw c.len-2.ensures at c.in_ok-either.ensures.each)) in
    let again : IsEither slots (length words) c.deref-4.result.now =
    subst (λ (found : List Bool). IsEither slots (length words) found) (sym c.deref-4.ensures.value)
    (subst (λ (votes : List Bool). IsEither votes (length words) c.in_ok-either-2.either.items) c.deref-3.ensures.value
    (rw c.len-3.ensures at c.in_ok-either-2.ensures.each)) in
    IsLoss-found base c.args.lost words new c.deref-2.result.now sized all either
    first
    (rw c.len.ensures at c.in_ok-first.ensures)
    c.deref-4.result.now again
    c.in_ok-fits.fits.items
    (subst (λ (votes : List Bool). AreFits (votes_of c.deref-4.result.now) votes words c.in_ok-fits.fits.items) c.deref-5.ensures.value
    c.in_ok-fits.ensures)
    c.place_of.result
    (subst (λ (fits : List Fit). IsLossBefore fits c.place_of.result) c.deref-6.ensures.value c.place_of.ensures)
