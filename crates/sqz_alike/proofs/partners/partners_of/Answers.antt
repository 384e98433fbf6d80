use Rattle.std.proofs.Common.{◌≡◌, ◌∙◌, ◌<◌, List, [], length, ap, arith}
use Rattle.std.proofs.lemmas.List.{get_or_read}
use Rattle.sqz_alike.specs.declared.matching.Pair.{Pair}
use Rattle.sqz_alike.specs.Partners.{common_slots, follow_first, offer, offer_first, seen_sides}
use Rattle.sqz_alike.proofs.MatchingLemmas.{pair_of}
use Rattle.sqz_alike.proofs.PartnerLemmas.{follow-more, length-offer_slots, once}
use Rattle.sqz_alike.proofs.partners.partners_of.Goals as goal

pub loop-next-preserved : goal.loop-next-preserved
loop-next-preserved c =
    let sides = seen_sides c.args.sides.now in
    let pairs = c.loop-next.matching.pairs.items in
    let pair = c.index-pair.result.now in
    let inside : c.loop-next.next < length c.loop-next.matching.pairs.items =
    omega (arith, c.loop-next-test.true, c.len-in-loop-next.ensures, c.loop-next.matching.pairs.ok.0) in
    let grown = length-offer_slots sides pairs pair (common_slots sides pair) in
    record {
      walk = c.in_ok-offer_slots.ensures.walk;
      pairs = follow-more sides c.offer-2.new.self.pairs.items pairs c.offer_slots.new.self.pairs.items c.loop-next.next pair
          c.loop-next.invariant.pairs (get_or_read pairs _ _ inside c.index-pair.ensures (pair_of 0 0)) c.in_ok-offer_slots.ensures.pairs;
      within = omega (arith, inside, grown, ap (length {A = Pair}) c.in_ok-offer_slots.ensures.pairs);
    }

pub returns-clause-found : goal.returns-clause-found
returns-clause-found c =
    let sides = seen_sides c.args.sides.now in
    let roots = pair_of c.special.result c.special-2.result in
    let all : c.loop-pair.pair-index ≡ length c.args.named.now = omega (arith, c.loop-pair.auto.pair-index-end, c.loop-pair-test.false) in
    let offered = c.in_ok-offer-2.ensures.pairs
    ∙ ap (λ (xs : List Pair). offer sides xs roots) (c.loop-pair.invariant.pairs ∙ ap (offer_first sides [] c.args.named.now) all) in
    let last : c.loop-next.next ≡ length c.loop-next.matching.pairs.items =
    omega (arith, c.loop-next-test.false, c.len-in-loop-next.ensures, c.loop-next.invariant.within, c.loop-next.matching.pairs.ok.0) in
    record {
      roots = roots;
      are_roots = record { old_is = c.special.ensures.special; new_is = c.special-2.ensures.special };
      walked = c.loop-next.invariant.pairs
          ∙ ap (follow_first sides c.offer-2.new.self.pairs.items) last
          ∙ ap (λ (xs : List Pair). follow_first sides xs (length c.loop-next.matching.pairs.items)) offered;
    }

pub returns-clause-once : goal.returns-clause-once
returns-clause-once c =
    let matching = c.loop-next.matching in
    once matching.pairs.items matching.new_of.items matching.old_of.items c.loop-next.invariant.walk.matched
