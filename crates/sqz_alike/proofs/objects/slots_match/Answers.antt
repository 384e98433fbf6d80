use Rattle.std.proofs.Common.{◌+◌, arith, refl, subst}
use Rattle.sqz_alike.specs.FirstDifference.{any_kind}
use Rattle.sqz_alike.specs.Seen.{seen}
use Rattle.sqz_alike.specs.Walk.{Finds, FirstSlotsMatch}
use Rattle.sqz_alike.proofs.PartnerLemmas.{offer_slots-more}
use Rattle.sqz_alike.proofs.WalkLemmas.{one_slot_more}
use Rattle.sqz_alike.proofs.objects.slots_match.Goals as goal

pub returns-then-not-branch-2-clause-finds : goal.returns-then-not-branch-2-clause-finds
returns-then-not-branch-2-clause-finds c =
    subst (Finds (FirstSlotsMatch (seen c.args.old.now) (seen c.args.new.now) c.args.pair c.args.count) _ _) c.if-not-branch-2.true
    (one_slot_more (seen c.args.old.now) (seen c.args.new.now) c.args.pair c.loop-index.index c.args.count
    (omega (arith, c.loop-index-test.true, c.loop-index.auto.index-end)) c.loop-index.invariant.finds c.in_ok-slot_matches-2.ensures.finds
    (λ e. absurd cc))

pub loop-index-preserved : goal.loop-index-preserved
loop-index-preserved c =
    record {
      walk = c.in_ok-slot_matches-2.ensures.walk;
      finds = subst (Finds (FirstSlotsMatch (seen c.args.old.now) (seen c.args.new.now) c.args.pair (c.loop-index.index + 1)) _ _) c.if-not-branch-2.false
          (one_slot_more (seen c.args.old.now) (seen c.args.new.now) c.args.pair c.loop-index.index (c.loop-index.index + 1)
          (omega arith) c.loop-index.invariant.finds c.in_ok-slot_matches-2.ensures.finds (λ e. refl));
      offered = offer_slots-more (any_kind (seen c.args.old.now) (seen c.args.new.now)) c.args.matching.now.pairs.items
          c.loop-index.matching.pairs.items c.slot_matches-in-loop-index.new.matching.pairs.items c.args.pair c.loop-index.index
          c.loop-index.invariant.offered c.in_ok-slot_matches-2.ensures.offered;
    }
