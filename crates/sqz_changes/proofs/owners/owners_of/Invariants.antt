use Rattle.std.proofs.Common.{◌≡◌}
use Rattle.sqz_changes.specs.Owners.{first_owners}
use Rattle.sqz_changes.proofs.owners.owners_of.Given as goal

abbrev pub invariant-loop-index : goal.invariant-loop-index
invariant-loop-index l = l.owners.items ≡ first_owners l.leads l.index
