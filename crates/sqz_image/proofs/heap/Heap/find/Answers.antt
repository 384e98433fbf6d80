use Rattle.std.proofs.Common.{sym}
use Rattle.sqz_image.proofs.HeapLemmas.{table_of, find_in_table}
use Rattle.sqz_image.proofs.heap.Heap.find.Goals as goal

pub place_at-requires : goal.place_at-requires
place_at-requires c = rw c.deref.ensures.value (table_of c.self.invariant.listed c.self.invariant.headers)

pub returns : goal.returns
returns c =
    rw (sym c.self.view_is) (find_in_table c.self.invariant.listed c.args.address c.place_at.result
    c.self.invariant.headers (rw c.deref.ensures.value at c.place_at.ensures))
