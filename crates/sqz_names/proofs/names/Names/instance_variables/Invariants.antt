use Rattle.std.proofs.Common.{◌≡◌, All, Some}
use Rattle.sqz_names.specs.Names.{IsTextObject}
use Rattle.sqz_names.proofs.InstanceVariableLemmas.{names_of}
use Rattle.sqz_names.proofs.names.Names.instance_variables.Given as goal

abbrev pub invariant-loop-array : goal.invariant-loop-array
invariant-loop-array l = record {
  texts : All (IsTextObject l.self.graph.heap.now) l.names.items;
  names : Some l.names.items ≡ names_of l.self.graph.heap.now l.array-items l.array-index;
}
