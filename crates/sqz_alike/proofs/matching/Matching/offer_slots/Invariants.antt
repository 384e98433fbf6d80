use Rattle.std.proofs.Common.{◌≡◌}
use Rattle.sqz_alike.specs.Partners.{offer_slots, seen_sides}
use Rattle.sqz_alike.specs.Walk.{IsWalk}
use Rattle.sqz_alike.proofs.matching.Matching.offer_slots.Given as goal

abbrev pub invariant-loop-index : goal.invariant-loop-index
invariant-loop-index l =
    record {
      walk : IsWalk l.sides.old.now l.sides.new.now l.self;
      pairs : l.self.pairs.items ≡ offer_slots (seen_sides l.sides) l.fn.self.pairs.items l.pair l.index;
    }
