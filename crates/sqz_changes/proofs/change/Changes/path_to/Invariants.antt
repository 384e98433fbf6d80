use Rattle.std.proofs.Common.{◌≡◌, ◌-◌, ◌++◌, reverse}
use Rattle.sqz_changes.specs.Owners.{path_to, path_within}
use Rattle.sqz_changes.proofs.change.Changes.path_to.Given as goal

abbrev pub invariant-loop-count : goal.invariant-loop-count
invariant-loop-count l = path_to l.self.leads.items l.pair ≡ path_within l.self.leads.items (l.pair - l._count) l.at ++ reverse l.steps.items
