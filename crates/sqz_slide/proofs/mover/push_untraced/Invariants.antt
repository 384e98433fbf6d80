use Rattle.std.proofs.Common.{◌≡◌, ◌++◌, take}
use Rattle.sqz_slide.proofs.mover.push_untraced.Given as goal

abbrev pub invariant-loop-index : goal.invariant-loop-index
invariant-loop-index l = l.words.items ≡ l.fn.words.items ++ take l.index l.fields
