use Rattle.std.proofs.Common.{◌≡◌, ◌*◌, ◌^◌, ◌≤◌, length}
use Rattle.sqz_changes.specs.Compared.{compared}
use Rattle.sqz_changes.specs.Differences.{first_places}
use Rattle.sqz_changes.specs.Tallies.{AreTallies, counted_in, none, tallied, with_places}
use Rattle.sqz_changes.proofs.changes.changes_between.Given as goal

abbrev pub invariant-loop-pair : goal.invariant-loop-pair
invariant-loop-pair l = record {
  are : tallied l.tallies ≡ with_places (compared l.comparison) l.owners.items (first_places (compared l.comparison) l.pair) none;
  tallies : AreTallies (length l.comparison.matching.now.pairs.items) l.tallies;
  few : counted_in l.tallies ≤ l.pair * 2 ^ 33;
}
