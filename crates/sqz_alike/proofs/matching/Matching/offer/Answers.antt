use Rattle.std.proofs.Common.{◌≡◌, ℕ, Ok, true, sym, ◌∙◌}
use Rattle.sqz_alike.specs.Partners.{are_partners, seen_sides}
use Rattle.sqz_alike.proofs.PartnerLemmas.{IsLive-partners, offer-partners}
use Rattle.sqz_alike.proofs.WalkLemmas.{IsWalk-join}
use Rattle.sqz_alike.proofs.matching.Matching.offer.Goals as goal

pub returns-in_ok-join-clause-walk : goal.returns-in_ok-join-clause-walk
returns-in_ok-join-clause-walk c =
    let are : are_partners (seen_sides c.args.sides.now) c.args.self.now.pairs.items c.args.pair ≡ true =
    sym c.are_partners.ensures ∙ c.if-are_partners.true in
    IsWalk-join c.args.sides.now.old.now c.args.sides.now.new.now c.args.self.now c.join.new.self c.args.pair c.requires.walk
    (IsLive-partners (seen_sides c.args.sides.now) c.args.self.now.pairs.items c.args.pair are)
    {E = ℕ} (Ok c.in_ok-join.field-0) c.in_ok-join.ensures.joins c.in_ok-join.ensures.matching c.in_ok-join.ensures.old c.in_ok-join.ensures.new

pub returns-in_ok-join-clause-pairs : goal.returns-in_ok-join-clause-pairs
returns-in_ok-join-clause-pairs c =
    let self = c.args.self.now in
    let are : are_partners (seen_sides c.args.sides.now) self.pairs.items c.args.pair ≡ true =
    sym c.are_partners.ensures ∙ c.if-are_partners.true in
    c.in_ok-join.ensures.pairs ∙ offer-partners (seen_sides c.args.sides.now) self.pairs.items c.args.pair are
