use Rattle.std.proofs.lemmas.List.{length-replicate}
use Rattle.std.proofs.lemmas.List.Elements.{All-nil}
use Rattle.sqz_image.specs.Objects.{object_count}
use Rattle.sqz_names.specs.Names.{IsVariableName}
use Rattle.sqz_names.proofs.VariableLemmas.{ListsArrays-none}
use Rattle.sqz_names.proofs.variables.VariablesFound.none.Goals as goal

pub invariant_of-result : goal.invariant_of-result
invariant_of-result c =
    let memory = c.args.graph.heap.now in
    record {
      one_each = rw c.in_ok-empty.ensures (length-replicate (object_count memory) _);
      are_variables = rw c.new.ensures.items (All-nil (IsVariableName memory c.args.graph.weak));
      are_all = rw c.in_ok-empty.ensures (ListsArrays-none memory (object_count memory) _);
    }
