use Rattle.std.proofs.Common.{arith, ap, length}
use Rattle.sqz_image.proofs.HeapLemmas.{listed_is, few_objects}
use Rattle.sqz_image.proofs.heap.heap_bounds.Goals as goal

pub returns-clause-objects : goal.returns-clause-objects
returns-clause-objects c = few_objects (listed_is c.heap.view_is c.heap.invariant)

pub returns-clause-words : goal.returns-clause-words
returns-clause-words c =
    let kept = listed_is c.heap.view_is c.heap.invariant in
    omega (arith, ap length kept.partition.whole, kept.few_words)

pub returns-clause-within : goal.returns-clause-within
returns-clause-within c =
    let kept = listed_is c.heap.view_is c.heap.invariant in
    omega (arith, ap length kept.partition.whole, kept.within)
