use Rattle.std.proofs.Common.{◌≡◌, ◌<◌, ◌&&◌, ℕ, true}
use Rattle.sqz_trace.specs.Graph.{is_marked}
use Rattle.sqz_names.specs.Structures.{IsClass}
use Rattle.sqz_names.specs.MethodOrder.{is_listed_before, methods_by_class}
use Rattle.sqz_names.specs.Names.{AreOfClasses, ListsMethodsOf}
use Rattle.sqz_names.proofs.names.Names.methods_of_marked.Given as goal

abbrev pub invariant-loop-class : goal.invariant-loop-class
invariant-loop-class l = record {
  graph : l.methods.graph ≡ l.self.graph;
  marked : AreOfClasses (is_marked l.marks) l.methods.names.items;
  all : (class : ℕ) → class < l.class → IsClass l.self.graph.heap.now l.self.graph.weak class → is_marked l.marks class ≡ true
      → ListsMethodsOf l.self.graph.heap.now l.methods.names.items class;
  listed : l.methods.names.items
      ≡ methods_by_class l.self.graph.heap.now (λ class. is_marked l.self.classes class && is_marked l.marks class) l.class;
  dictionaries : (dictionary : ℕ) → is_marked l.methods.dictionaries dictionary
      ≡ is_listed_before l.self.graph.heap.now (λ class. is_marked l.self.classes class && is_marked l.marks class) l.class dictionary;
}
