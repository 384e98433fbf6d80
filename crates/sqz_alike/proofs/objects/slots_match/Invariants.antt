use Rattle.std.proofs.Common.{◌≡◌, true}
use Rattle.sqz_alike.specs.FirstDifference.{any_kind}
use Rattle.sqz_alike.specs.Partners.{offer_slots}
use Rattle.sqz_alike.specs.Seen.{seen}
use Rattle.sqz_alike.specs.Walk.{Finds, FirstSlotsMatch, IsWalk}
use Rattle.sqz_alike.proofs.objects.slots_match.Given as goal

abbrev pub invariant-loop-index : goal.invariant-loop-index
invariant-loop-index l =
    record {
      walk : IsWalk l.old l.new l.matching;
      finds : Finds (FirstSlotsMatch (seen l.old) (seen l.new) l.pair l.index) l.fn.matching.pairs.items l.matching.pairs.items true;
      offered : l.matching.pairs.items ≡ offer_slots (any_kind (seen l.old) (seen l.new)) l.fn.matching.pairs.items l.pair l.index;
    }
