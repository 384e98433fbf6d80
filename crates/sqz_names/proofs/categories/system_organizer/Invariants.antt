use Rattle.std.proofs.Common.{◌<◌, ℕ, get_or}
use Rattle.sqz_names.specs.declared.variable_name.VariableName.{VariableName}
use Rattle.sqz_names.specs.Categories.{IsNoOrganization}
use Rattle.sqz_names.proofs.categories.system_organizer.Given as goal

-- no variable so far is the one
abbrev pub invariant-loop-variable : goal.invariant-loop-variable
invariant-loop-variable l =
    (k : ℕ) (d : VariableName) → k < l.variable-index → IsNoOrganization l.heap l.names.graph.weak (get_or l.names.variables.items k d)
