use Rattle.std.proofs.Common.{◌≡◌, ◌++◌, All, Some, option_map}
use Rattle.sqz_names.specs.InstanceVariables.{all_some}
use Rattle.sqz_names.specs.Names.{IsTextObject}
use Rattle.sqz_names.proofs.InstanceVariableLemmas.{names_below}
use Rattle.sqz_names.proofs.names.Names.push_names.Given as goal

abbrev pub invariant-loop-field : goal.invariant-loop-field
invariant-loop-field l = record {
  texts : All (IsTextObject l.self.graph.heap.now) l.names.items;
  names : Some l.names.items ≡ option_map (λ its. l.fn.names.items ++ its) (all_some (names_below l.self.graph.heap.now l.array l.field));
}
