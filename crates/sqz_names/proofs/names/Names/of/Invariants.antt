use Rattle.std.proofs.Common.{◌≡◌, ◌<◌, ℕ, None, Some}
use Rattle.sqz_names.specs.Structures.{IsClass}
use Rattle.sqz_names.specs.Names.{ListsMethodsOf, ListsVariablesOf}
use Rattle.sqz_names.proofs.names.Names.of.Given as goal

abbrev pub invariant-loop-class : goal.invariant-loop-class
invariant-loop-class l = record {
  methods : l.methods.graph ≡ l.graph;
  variables : l.variables.graph ≡ l.graph;
  all_methods : (class : ℕ) → class < l.class → IsClass l.graph.heap.now l.graph.weak class
      → ListsMethodsOf l.graph.heap.now l.methods.names.items class;
  all_globals : ListsVariablesOf l.graph.heap.now l.variables.names.items None;
  all_variables : (class : ℕ) → class < l.class → IsClass l.graph.heap.now l.graph.weak class
      → ListsVariablesOf l.graph.heap.now l.variables.names.items (Some class);
}
