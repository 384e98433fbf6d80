use Rattle.std.proofs.Common.{◌≡◌, ◌∙◌, ◌&&◌, ℕ, Bool, true, false, not, Option, Some, None, sym, ap, refl}
use Rattle.std.specs.Prelude.{is_none, is_some}
use Rattle.sqz_alike.specs.Matching.{has_old, has_new}
use Rattle.sqz_alike.proofs.PartnerLemmas.{free-old, free-new}
use Rattle.sqz_alike.proofs.matching.Matching.are_free.Goals as goal

none_is : (o : Option ℕ) (b : Bool) → is_some o ≡ not b → b ≡ is_none o
none_is (Some x) true e = absurd cc
none_is (Some x) false e = refl
none_is None true e = refl
none_is None false e = absurd cc

pub returns-then-is_none : goal.returns-then-is_none
returns-then-is_none c =
    let self = c.args.self.now in
    let pair = c.args.pair in
    let old = free-old self.pairs.items self.new_of.items self.old_of.items c.requires pair.old in
    let new = free-new self.pairs.items self.new_of.items self.old_of.items c.requires pair.new in
    let is_free : not (has_old self.pairs.items pair.old) ≡ true =
    sym (none_is c.new_of.result c.is_none.result c.is_none.ensures ∙ ap is_none c.new_of.ensures ∙ old) ∙ c.if-is_none.true in
    none_is c.old_of.result c.is_none-then-is_none.result c.is_none-then-is_none.ensures
    ∙ ap is_none c.old_of.ensures
    ∙ new
    ∙ sym (ap (λ (b : Bool). b && not (has_new self.pairs.items pair.new)) is_free)

pub returns-else-is_none : goal.returns-else-is_none
returns-else-is_none c =
    let self = c.args.self.now in
    let pair = c.args.pair in
    let old = free-old self.pairs.items self.new_of.items self.old_of.items c.requires pair.old in
    let is_taken : not (has_old self.pairs.items pair.old) ≡ false =
    sym (none_is c.new_of.result c.is_none.result c.is_none.ensures ∙ ap is_none c.new_of.ensures ∙ old) ∙ c.if-is_none.false in
    c.if-is_none.false ∙ sym (ap (λ (b : Bool). b && not (has_new self.pairs.items pair.new)) is_taken)
