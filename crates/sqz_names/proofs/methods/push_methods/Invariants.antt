use Rattle.std.proofs.Common.{◌≡◌, ◌≤◌, ◌-◌, ◌++◌, length, ℕ, Bool, true, All, Contains}
use Rattle.sqz_object.specs.Chunk.{fields}
use Rattle.sqz_image.specs.Objects.{chunk_words}
use Rattle.sqz_names.specs.declared.method_name.MethodName.{MethodName}
use Rattle.sqz_names.specs.Names.{AreOfClasses, IsMethodName}
use Rattle.sqz_names.proofs.MethodLemmas.{ListsBelow}
use Rattle.sqz_names.proofs.MethodOrderLemmas.{methods_below}
use Rattle.sqz_names.proofs.methods.push_methods.Given as goal

abbrev pub invariant-loop-field : goal.invariant-loop-field
invariant-loop-field l = record {
  methods : All (IsMethodName l.graph.heap.now l.graph.weak) l.found.items;
  classes : (test : ℕ → Bool) → test l.class ≡ true → AreOfClasses test l.fn.found.items → AreOfClasses test l.found.items;
  keeps : (name : MethodName) → Contains l.fn.found.items name → Contains l.found.items name;
  all : ListsBelow l.graph.heap.now l.dictionary l.field l.found.items;
  listed : l.found.items ≡ l.fn.found.items ++ methods_below l.graph.heap.now l.class l.dictionary l.methods l.field;
  within : l.field - 2 ≤ length (fields (chunk_words l.graph.heap.now l.dictionary)) - 2;
}
