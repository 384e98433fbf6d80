use Rattle.std.proofs.Common.{arith, rules}
use Rattle.sqz_image.proofs.HeapLemmas.{listed_is, has_object}
use Rattle.sqz_image.proofs.heap.Heap.address.Goals as goal

pub overflow_add-result : goal.overflow_add-result
overflow_add-result c =
    let heap = listed_is c.self.view_is c.self.invariant in
    let here = has_object heap c.args.object c.requires in
    rw c.chunk.ensures.described (omega (arith, here.stands.inside, here.header, heap.within, c.first.ensures.first))

pub returns-clause-within : goal.returns-clause-within
returns-clause-within c =
    let heap = listed_is c.self.view_is c.self.invariant in
    let here = has_object heap c.args.object c.requires in
    rw c.chunk.ensures.described (omega (arith, here.stands.inside, here.header, heap.within, c.first.ensures.first))

pub returns-clause-address : goal.returns-clause-address
returns-clause-address c = search rules
