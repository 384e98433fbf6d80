use Rattle.std.proofs.Common.{◌≡◌, ◌*◌, take}
use Rattle.sqz_object.specs.Bytes.{spelling_of}
use Rattle.sqz_image.proofs.write_words.spell.Given as goal

abbrev pub invariant-loop-k : goal.invariant-loop-k
invariant-loop-k l = take (4 * l.k) l.block ≡ spelling_of l.order (take l.k l.words)
