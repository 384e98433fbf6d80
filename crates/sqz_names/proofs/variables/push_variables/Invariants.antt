use Rattle.std.proofs.Common.{All, Contains}
use Rattle.sqz_names.specs.declared.variable_name.VariableName.{VariableName}
use Rattle.sqz_names.specs.Names.{IsVariableName}
use Rattle.sqz_names.proofs.VariableLemmas.{ListsVariablesBelow}
use Rattle.sqz_names.proofs.variables.push_variables.Given as goal

abbrev pub invariant-loop-field : goal.invariant-loop-field
invariant-loop-field l = record {
  variables : All (IsVariableName l.graph.heap.now l.graph.weak) l.found.items;
  keeps : (name : VariableName) → Contains l.fn.found.items name → Contains l.found.items name;
  all : ListsVariablesBelow l.graph.heap.now l.array l.field l.found.items;
}
