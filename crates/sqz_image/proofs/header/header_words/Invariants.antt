use Rattle.std.proofs.Common.{◌≡◌, ◌<◌, ℕ, length, get_or}
use Rattle.sqz_object.specs.Bytes.{words_of}
use Rattle.sqz_image.proofs.header.header_words.Given as goal

abbrev pub invariant-loop-k : goal.invariant-loop-k
invariant-loop-k l = (length l.words ≡ 16) × ((j : ℕ) → j < l.k → get_or l.words j 0 ≡ get_or (words_of l.order l.bytes) j 0)
