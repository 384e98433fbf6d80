use Rattle.std.proofs.Common.{◌≡◌, ◌+◌, ◌≤◌, length}
use Rattle.sqz_changes.specs.Compared.{compared}
use Rattle.sqz_changes.specs.Differences.{at_places, slot_places, slots_to}
use Rattle.sqz_changes.specs.Tallies.{AreTallies, counted_in, tallied, with_places_of}
use Rattle.sqz_changes.proofs.tallies.Tallies.add_slots.Given as goal

abbrev pub invariant-loop-index : goal.invariant-loop-index
invariant-loop-index l = record {
  are : tallied l.self ≡ with_places_of (compared l.comparison) l.owner (at_places l.pair (slot_places (slots_to l.index))) (tallied l.fn.self);
  tallies : AreTallies (length l.comparison.matching.now.pairs.items) l.self;
  few : counted_in l.self ≤ counted_in l.fn.self + 1 + l.index;
}
