use Rattle.std.proofs.Common.{◌≡◌, ◌∙◌, ◌<◌, ap, sym, ℕ, Option, Some, length, arith}
use Rattle.std.specs.Prelude.{nat_eq}
use Rattle.std.specs.Option.{option_eq}
use Rattle.sqz_alike.specs.Matching.{partner_in}
use Rattle.sqz_changes.proofs.AnchorLemmas.{AreAnchored-kept, AreAnchored-set, eq_some}
use Rattle.sqz_changes.proofs.PairLemmas.{partner-in}
use Rattle.sqz_changes.proofs.anchors.anchor.Goals as goal

pub returns-then-eq-clause-anchored : goal.returns-then-eq-clause-anchored
returns-then-eq-clause-anchored c pairs are =
    let self = c.args.comparison.now in
    let pair = c.args.pair in
    let partnered : partner_in self.matching.now.new_of.items pair.old ≡ Some pair.new =
    eq_some _ _ (sym (c.eq.ensures ∙ ap (λ (o : Option ℕ). option_eq nat_eq o (Some pair.new)) c.new_of.ensures) ∙ c.if-eq.true) in
    let inside : pair.old < length c.args.anchored.now.items =
    omega (arith, c.requires, partner-in self.old.now self.new.now self.matching.now self.walk pair.old pair.new partnered) in
    AreAnchored-set self.matching.now.new_of.items pairs pair c.args.anchored.now.items are partnered inside

pub returns-else-eq-clause-anchored : goal.returns-else-eq-clause-anchored
returns-else-eq-clause-anchored c pairs are =
    let self = c.args.comparison.now in
    let pair = c.args.pair in
    AreAnchored-kept self.matching.now.new_of.items pairs pair c.args.anchored.now.items are
    (sym (c.eq.ensures ∙ ap (λ (o : Option ℕ). option_eq nat_eq o (Some pair.new)) c.new_of.ensures) ∙ c.if-eq.false)
