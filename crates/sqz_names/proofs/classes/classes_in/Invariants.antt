use Rattle.std.proofs.Common.{◌≡◌, true, length}
use Rattle.sqz_image.specs.Objects.{object_count}
use Rattle.sqz_trace.specs.Graph.{is_marked}
use Rattle.sqz_names.specs.ClassSets.{HasClassesOf, IsClassSet}
use Rattle.sqz_names.proofs.classes.classes_in.Given as goal

abbrev pub invariant-loop-object : goal.invariant-loop-object
invariant-loop-object l =
    record {
      classes : IsClassSet l.live.graph.heap.now l.live.graph.weak l.classes;
      sized : length l.of_objects ≡ object_count l.live.graph.heap.now;
      all : HasClassesOf l.live.graph.heap.now l.live.graph.weak (λ object. Unit {0}) l.object l.of_objects;
      live : HasClassesOf l.live.graph.heap.now l.live.graph.weak (λ object. is_marked l.live.marks object ≡ true) l.object l.classes;
    }
