use Rattle.std.proofs.Common.{sym, ◌∙◌}
use Rattle.std.proofs.lemmas.Result.{IfOk-weaker}
use Rattle.sqz_alike.specs.Seen.{seen}
use Rattle.sqz_alike.proofs.StepLemmas.{option_eq-true, option_eq-false, slot_joins, slot_words, slot_left, slot_right}
use Rattle.sqz_alike.proofs.WalkLemmas.{old_inside, new_inside, IsWalk-join}
use Rattle.sqz_alike.proofs.objects.slot_matches.Goals as goal

pub seen_target-found-requires : goal.seen_target-found-requires
seen_target-found-requires c =
    old_inside c.args.old.now c.args.new.now c.args.matching.now c.requires.walk c.args.pair c.requires.paired

pub seen_target-other-requires : goal.seen_target-other-requires
seen_target-other-requires c =
    new_inside c.args.old.now c.args.new.now c.args.matching.now c.requires.walk c.args.pair c.requires.paired

pub slot_word-word-requires : goal.slot_word-word-requires
slot_word-word-requires c =
    old_inside c.args.old.now c.args.new.now c.args.matching.now c.requires.walk c.args.pair c.requires.paired

pub slot_word-other_word-requires : goal.slot_word-other_word-requires
slot_word-other_word-requires c =
    new_inside c.args.old.now c.args.new.now c.args.matching.now c.requires.walk c.args.pair c.requires.paired

pub returns-in-Some-Some-clause-walk : goal.returns-in-Some-Some-clause-walk
returns-in-Some-Some-clause-walk c =
    let joins = c.join.ensures in
    IsWalk-join c.args.old.now c.args.new.now c.args.matching.now c.join.new.self
    (record { old = c.in-Some-Some.old; new = c.in-Some-Some.new }) c.requires.walk
    (record {
      old_is = rw c.in-Some-Some.is-0 at c.seen_target-found.ensures.live;
      new_is = rw c.in-Some-Some.is-1 at c.seen_target-other.ensures.live;
    }) c.join.result
    joins.joins joins.matching joins.old joins.new

pub returns-in-Some-Some-clause-finds : goal.returns-in-Some-Some-clause-finds
returns-in-Some-Some-clause-finds c =
    IfOk-weaker c.join.result _ _ (λ joined joins.
    slot_joins (seen c.args.old.now) (seen c.args.new.now) c.args.pair c.args.slot c.args.matching.now.pairs.items
    c.in-Some-Some.old c.in-Some-Some.new (sym c.seen_target-found.ensures.target ∙ c.in-Some-Some.is-0)
    (sym c.seen_target-other.ensures.target ∙ c.in-Some-Some.is-1) c.join.new.self.pairs.items joined joins) c.join.ensures.joins

pub returns-in-Some-None-clause-finds : goal.returns-in-Some-None-clause-finds
returns-in-Some-None-clause-finds c =
    slot_left (seen c.args.old.now) (seen c.args.new.now) c.args.pair c.args.slot c.args.matching.now.pairs.items
    c.in-Some-None.field-0-0 (sym c.seen_target-found.ensures.target ∙ c.in-Some-None.is-0)
    (sym c.seen_target-other.ensures.target ∙ c.in-Some-None.is-1)

pub returns-in-None-Some-clause-finds : goal.returns-in-None-Some-clause-finds
returns-in-None-Some-clause-finds c =
    slot_right (seen c.args.old.now) (seen c.args.new.now) c.args.pair c.args.slot c.args.matching.now.pairs.items
    c.in-None-Some.field-0-1 (sym c.seen_target-found.ensures.target ∙ c.in-None-Some.is-0)
    (sym c.seen_target-other.ensures.target ∙ c.in-None-Some.is-1)

pub returns-in-None-None-clause-finds : goal.returns-in-None-None-clause-finds
returns-in-None-None-clause-finds c =
    let one = c.slot_word-word.result in
    let other = c.slot_word-other_word.result in
    slot_words (seen c.args.old.now) (seen c.args.new.now) c.args.pair c.args.slot c.args.matching.now.pairs.items
    (sym c.seen_target-found.ensures.target ∙ c.in-None-None.is-0) (sym c.seen_target-other.ensures.target ∙ c.in-None-None.is-1) c.eq.result
    (λ e. sym c.slot_word-word.ensures ∙ option_eq-true one other (sym c.eq.ensures ∙ e) ∙ c.slot_word-other_word.ensures)
    (λ e same. option_eq-false one other (sym c.eq.ensures ∙ e) (c.slot_word-word.ensures ∙ same ∙ sym c.slot_word-other_word.ensures))
