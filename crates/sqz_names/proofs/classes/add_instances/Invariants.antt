use Rattle.std.proofs.Common.{◌≡◌, ℕ, true}
use Rattle.sqz_trace.specs.Graph.{is_marked}
use Rattle.sqz_names.specs.ClassSets.{IsClassSet}
use Rattle.sqz_names.proofs.ClassSetLemmas.{HasInstancesOf}
use Rattle.sqz_names.proofs.classes.add_instances.Given as goal

abbrev pub invariant-loop-class : goal.invariant-loop-class
invariant-loop-class l = record {
  set : IsClassSet l.its_classes.graph.heap.now l.its_classes.graph.weak l.classes;
  keeps : (object : ℕ) → is_marked l.fn.classes object ≡ true → is_marked l.classes object ≡ true;
  instances : HasInstancesOf l.its_classes.graph.heap.now l.its_classes.graph.weak l.of_objects l.class l.classes;
}
