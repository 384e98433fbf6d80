use Rattle.std.proofs.Common.{◌<◌, ◌-◌, All, IfSome}
use Rattle.sqz_image.specs.Objects.{object_count}
use Rattle.sqz_names.specs.InstanceVariables.{name_arrays}
use Rattle.sqz_names.proofs.InstanceVariableLemmas.{HasAdded}
use Rattle.sqz_names.proofs.names.Names.name_arrays.Given as goal

abbrev pub invariant-loop-seen : goal.invariant-loop-seen
invariant-loop-seen l = record {
  inside : All (λ array. array < object_count l.self.graph.heap.now) l.arrays.items;
  next : IfSome l.next (λ class. class < object_count l.self.graph.heap.now);
  added : HasAdded l.self.graph.heap.now (name_arrays l.self.graph.heap.now l.class) l.arrays.items l.count (100 - l.seen) l.next;
}
