use Rattle.std.proofs.Common.{◌-◌, length}
use Rattle.sqz_image.proofs.IndexLemmas.{IsIndexedUpTo}
use Rattle.sqz_image.proofs.index.index_of.Given as goal

abbrev pub invariant-loop-p : goal.invariant-loop-p
invariant-loop-p l = IsIndexedUpTo l.words l.p l.starts.items l.headers.items

abbrev pub decreases-loop-p : goal.decreases-loop-p
decreases-loop-p l = length l.words - l.p
