use Rattle.std.proofs.lemmas.List.{length-replicate}
use Rattle.std.proofs.lemmas.List.Elements.{All-nil}
use Rattle.sqz_image.specs.Objects.{object_count}
use Rattle.sqz_names.specs.Names.{IsMethodName}
use Rattle.sqz_names.proofs.MethodLemmas.{ListsDictionaries-none}
use Rattle.sqz_names.proofs.methods.MethodsFound.none.Goals as goal

pub invariant_of-result : goal.invariant_of-result
invariant_of-result c =
    let memory = c.args.graph.heap.now in
    record {
      one_each = rw c.in_ok-empty.ensures (length-replicate (object_count memory) _);
      are_methods = rw c.new.ensures.items (All-nil (IsMethodName memory c.args.graph.weak));
      are_all = rw c.in_ok-empty.ensures (ListsDictionaries-none memory (object_count memory) _);
    }
