use Rattle.sqz_trace.specs.declared.weak.Weak.{Weak}
use Rattle.sqz_histogram.specs.Keys.{AreEntries}
use Rattle.sqz_histogram.specs.Tallies.{AreTalliesBelow}
use Rattle.sqz_histogram.proofs.tallies.tallies_of.Given as goal

abbrev pub invariant-loop-entry : goal.invariant-loop-entry
invariant-loop-entry l =
    (weak : Weak) → AreEntries l.heap weak l.marks l.entries
    → AreTalliesBelow l.heap weak l.marks l.entry-index l.tallies.items
