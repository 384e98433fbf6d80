use Rattle.sqz_image.proofs.HeapLemmas.{found_is_object}
use Rattle.sqz_image.proofs.heap.Heap.special.Goals as goal

pub returns-clause-inside : goal.returns-clause-inside
returns-clause-inside c = found_is_object c.self.inside.special_object c.self.view_is c.self.invariant.found
