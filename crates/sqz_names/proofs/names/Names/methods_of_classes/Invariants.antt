use Rattle.std.proofs.Common.{◌≡◌, ◌<◌, ℕ}
use Rattle.std.specs.Str.{bytes_eq}
use Rattle.sqz_names.specs.ByteTexts.{whole_name}
use Rattle.sqz_names.specs.Names.{AreOfClasses, IsClassNamed, ListsMethodsOf}
use Rattle.sqz_names.proofs.names.Names.methods_of_classes.Given as goal

abbrev pub invariant-loop-class : goal.invariant-loop-class
invariant-loop-class l = record {
  graph : l.methods.graph ≡ l.self.graph;
  named : AreOfClasses (λ class. bytes_eq (whole_name l.self.graph.heap.now l.self.graph.weak class) l.name) l.methods.names.items;
  all : (class : ℕ) → class < l.class → IsClassNamed l.self.graph.heap.now l.self.graph.weak l.name class
      → ListsMethodsOf l.self.graph.heap.now l.methods.names.items class;
}
