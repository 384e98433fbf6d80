use Rattle.std.proofs.Common.{◌≡◌, ◌-◌, ◌≤◌, [], length}
use Rattle.sqz_alike.specs.Partners.{follow_first, offer_first, seen_sides}
use Rattle.sqz_alike.specs.Walk.{IsWalk}
use Rattle.sqz_alike.proofs.partners.partners_of.Given as goal

abbrev pub invariant-loop-pair : goal.invariant-loop-pair
invariant-loop-pair l =
    record {
      walk : IsWalk l.sides.old.now l.sides.new.now l.matching;
      pairs : l.matching.pairs.items ≡ offer_first (seen_sides l.sides) [] l.named l.pair-index;
    }

abbrev pub invariant-loop-next : goal.invariant-loop-next
invariant-loop-next l =
    record {
      walk : IsWalk l.sides.old.now l.sides.new.now l.matching;
      pairs : l.matching.pairs.items ≡ follow_first (seen_sides l.sides) l.initial.matching.pairs.items l.next;
      within : l.next ≤ length l.matching.pairs.items;
    }

abbrev pub decreases-loop-next : goal.decreases-loop-next
decreases-loop-next l = length l.matching.new_of.items - l.next
