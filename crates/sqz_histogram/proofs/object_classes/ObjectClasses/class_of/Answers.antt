use Rattle.sqz_histogram.specs.Keys.{AreCompactClasses}
use Rattle.sqz_histogram.proofs.GroupLemmas.{class_of-inside}
use Rattle.sqz_histogram.proofs.object_classes.ObjectClasses.class_of.Goals as goal

pub returns-clause-inside : goal.returns-clause-inside
returns-clause-inside c =
    let self = c.args.self.now in
    let are : AreCompactClasses self.graph.heap.now self.graph.weak c.deref.result.now =
    rw c.deref.ensures.value self.are_classes in
    class_of-inside self.graph.heap.now self.graph.weak c.object.result c.class_by_table.result
    (c.class_by_table.ensures self.graph.weak are)
