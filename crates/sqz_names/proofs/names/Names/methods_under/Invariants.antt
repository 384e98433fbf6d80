use Rattle.std.proofs.Common.{◌≡◌, ◌<◌, ℕ, true, length, get_or}
use Rattle.sqz_image.specs.Objects.{object_count}
use Rattle.sqz_trace.specs.Graph.{is_marked}
use Rattle.sqz_names.specs.declared.method_name.MethodName.{MethodName}
use Rattle.sqz_names.specs.Names.{IsMethodUnder}
use Rattle.sqz_names.specs.Structures.{HasText}
use Rattle.sqz_names.proofs.names.Names.methods_under.Given as goal

abbrev pub invariant-loop-method : goal.invariant-loop-method
invariant-loop-method l = record {
  compared : length l.compared ≡ object_count l.self.graph.heap.now;
  equal : length l.equal ≡ object_count l.self.graph.heap.now;
  named : length l.named ≡ object_count l.self.graph.heap.now;
  spelled : (selector : ℕ) → is_marked l.equal selector ≡ true → HasText l.self.graph.heap.now l.selector selector;
  all_spelled : (selector : ℕ) → is_marked l.compared selector ≡ true → HasText l.self.graph.heap.now l.selector selector
      → is_marked l.equal selector ≡ true;
  methods : (method : ℕ) → is_marked l.named method ≡ true
      → ∥ IsMethodUnder l.self.graph.heap.now l.self.graph.weak l.class l.selector method ∥₁;
  all_methods : (k : ℕ) → k < l.method-index → (d : MethodName)
      → HasText l.self.graph.heap.now l.selector (get_or l.method-items k d).selector
      → is_marked l.named (get_or l.method-items k d).method ≡ true;
}
