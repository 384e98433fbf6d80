use Rattle.std.proofs.Common.{◌≡◌, take}
use Rattle.sqz_object.specs.Bytes.{spelling_of}
use Rattle.sqz_histogram.proofs.bytes.spelling_of.Given as goal

abbrev pub invariant-loop-index : goal.invariant-loop-index
invariant-loop-index l = l.bytes.items ≡ spelling_of l.order (take l.index l.words)
