use Rattle.std.proofs.Common.{◌≡◌, ◌∷◌, ◌++◌, [], ℕ, Bool, Option, None, true, false, cond, refl, sym, ap, ◌∙◌}
use Rattle.std.specs.Prelude.{is_none}
use Rattle.std.proofs.lemmas.Bool.{eqb-true, eqb-false}
use Rattle.std.proofs.lemmas.List.{get_or_read}
use Rattle.sqz_alike.specs.Matching.{are_free, partner_in}
use Rattle.sqz_alike.proofs.MatchingLemmas.{IsMatching-push, Joins-old, Joins-new}
use Rattle.sqz_alike.proofs.PartnerLemmas.{are_free-is}
use Rattle.sqz_alike.proofs.matching.Matching.join.Goals as goal

pub returns-in_ok-push-in-None-None-clause-matching :
    goal.returns-in_ok-push-in-None-None-clause-matching
returns-in_ok-push-in-None-None-clause-matching c =
    let self = c.args.self.now in
    let no_partner : Option ℕ = None in
    let old_free = sym (get_or_read self.new_of.items _ _ c.requires.old c.index.ensures no_partner) ∙ c.in-None-None.is-0 in
    let new_free = sym (get_or_read self.old_of.items _ _ c.requires.new c.index-2.ensures no_partner) ∙ c.in-None-None.is-1 in
    rw c.in_ok-push-in-None-None.ensures.items
    (IsMatching-push self.pairs.items self.new_of.items self.old_of.items c.requires.matching c.args.pair.old c.args.pair.new
    c.requires.old c.requires.new old_free new_free)

pub returns-in-None-Some-clause-joins : goal.returns-in-None-Some-clause-joins
returns-in-None-Some-clause-joins c =
    let self = c.args.self.now in
    let no_partner : Option ℕ = None in
    Joins-new self.pairs.items self.new_of.items self.old_of.items c.requires.matching c.args.pair.old c.args.pair.new
    c.requires.old c.requires.new c.in-None-Some.field-0-1
    (sym (get_or_read self.new_of.items _ _ c.requires.old c.index.ensures no_partner) ∙ c.in-None-Some.is-0)
    (sym (get_or_read self.old_of.items _ _ c.requires.new c.index-2.ensures no_partner) ∙ c.in-None-Some.is-1)

pub returns-in-Some-default-clause-joins : goal.returns-in-Some-default-clause-joins
returns-in-Some-default-clause-joins c =
    let self = c.args.self.now in
    let no_partner : Option ℕ = None in
    Joins-old self.pairs.items self.new_of.items self.old_of.items c.requires.matching c.args.pair.old c.args.pair.new
    c.requires.old c.requires.new c.in-Some-default.partner _
    (sym (get_or_read self.new_of.items _ _ c.requires.old c.index.ensures no_partner) ∙ c.in-Some-default.is-0)
    (eqb-true c.in-Some-default.partner c.args.pair.new) (eqb-false c.in-Some-default.partner c.args.pair.new)

pub returns-in_ok-push-in-None-None-clause-pairs : goal.returns-in_ok-push-in-None-None-clause-pairs
returns-in_ok-push-in-None-None-clause-pairs c =
    let self = c.args.self.now in
    let no_partner : Option ℕ = None in
    let old_free = sym (get_or_read self.new_of.items _ _ c.requires.old c.index.ensures no_partner) ∙ c.in-None-None.is-0 in
    let new_free = sym (get_or_read self.old_of.items _ _ c.requires.new c.index-2.ensures no_partner) ∙ c.in-None-None.is-1 in
    let free : are_free self.pairs.items c.args.pair ≡ true =
    are_free-is self.pairs.items self.new_of.items self.old_of.items c.requires.matching c.args.pair true true
    (ap is_none old_free) (ap is_none new_free) in
    c.in_ok-push-in-None-None.ensures.items ∙ sym (ap (λ (b : Bool). cond b (self.pairs.items ++ c.args.pair ∷ []) self.pairs.items) free)

pub returns-in-None-Some-clause-pairs : goal.returns-in-None-Some-clause-pairs
returns-in-None-Some-clause-pairs c =
    let self = c.args.self.now in
    let no_partner : Option ℕ = None in
    let old_free = sym (get_or_read self.new_of.items _ _ c.requires.old c.index.ensures no_partner) ∙ c.in-None-Some.is-0 in
    let new_taken = sym (get_or_read self.old_of.items _ _ c.requires.new c.index-2.ensures no_partner) ∙ c.in-None-Some.is-1 in
    let taken : are_free self.pairs.items c.args.pair ≡ false =
    are_free-is self.pairs.items self.new_of.items self.old_of.items c.requires.matching c.args.pair true false
    (ap is_none old_free) (ap is_none new_taken) in
    sym (ap (λ (b : Bool). cond b (self.pairs.items ++ c.args.pair ∷ []) self.pairs.items) taken)

pub returns-in-Some-default-clause-pairs : goal.returns-in-Some-default-clause-pairs
returns-in-Some-default-clause-pairs c =
    let self = c.args.self.now in
    let no_partner : Option ℕ = None in
    let old_taken = sym (get_or_read self.new_of.items _ _ c.requires.old c.index.ensures no_partner) ∙ c.in-Some-default.is-0 in
    let taken : are_free self.pairs.items c.args.pair ≡ false =
    are_free-is self.pairs.items self.new_of.items self.old_of.items c.requires.matching c.args.pair false
    (is_none (partner_in self.old_of.items c.args.pair.new)) (ap is_none old_taken) refl in
    sym (ap (λ (b : Bool). cond b (self.pairs.items ++ c.args.pair ∷ []) self.pairs.items) taken)
