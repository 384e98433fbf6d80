use Rattle.sqz_alike.specs.Partners.{seen_sides}
use Rattle.sqz_alike.proofs.PartnerLemmas.{offer_slots-more}
use Rattle.sqz_alike.proofs.WalkLemmas.{old_inside, new_inside}
use Rattle.sqz_alike.proofs.matching.Matching.offer_slots.Goals as goal

pub object-object-requires : goal.object-object-requires
object-object-requires c =
    old_inside c.args.sides.now.old.now c.args.sides.now.new.now c.args.self.now c.requires.walk c.args.pair c.requires.paired

pub object-other-requires : goal.object-other-requires
object-other-requires c =
    new_inside c.args.sides.now.old.now c.args.sides.now.new.now c.args.self.now c.requires.walk c.args.pair c.requires.paired

pub loop-index-preserved : goal.loop-index-preserved
loop-index-preserved c =
    record {
      walk = c.in_ok-offer_targets-2.ensures.walk;
      pairs = offer_slots-more (seen_sides c.args.sides.now) c.args.self.now.pairs.items c.loop-index.self.pairs.items
          c.offer_targets-in-loop-index.new.self.pairs.items c.args.pair c.loop-index.index c.loop-index.invariant.pairs
          c.in_ok-offer_targets-2.ensures.pairs;
    }
