use Rattle.std.proofs.Common.{arith}
use Rattle.sqz_image.proofs.HeapLemmas.{listed_is, few_objects, length_starts}
use Rattle.sqz_image.proofs.heap.Heap.len.Goals as goal

pub overflow_cast-result : goal.overflow_cast-result
overflow_cast-result c =
    let heap = listed_is c.self.view_is c.self.invariant in
    omega (arith, few_objects heap, length_starts heap, c.len.ensures, c.self.inside.starts.ok.0)

pub returns-clause-objects : goal.returns-clause-objects
returns-clause-objects c =
    let heap = listed_is c.self.view_is c.self.invariant in
    omega (arith, length_starts heap, c.len.ensures, c.self.inside.starts.ok.0)

pub returns-clause-few : goal.returns-clause-few
returns-clause-few c =
    let heap = listed_is c.self.view_is c.self.invariant in
    omega (arith, few_objects heap, length_starts heap, c.len.ensures, c.self.inside.starts.ok.0)
