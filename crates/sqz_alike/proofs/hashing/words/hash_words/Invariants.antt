use Rattle.std.proofs.Common.{take}
use Rattle.sqz_object.specs.Bytes.{spelling_of}
use Rattle.sqz_alike.specs.Hashing.{Takes}
use Rattle.sqz_alike.proofs.hashing.words.hash_words.Given as goal

abbrev pub invariant-loop-k : goal.invariant-loop-k
invariant-loop-k g l = Takes l.initial.hasher l.hasher (spelling_of l.order (take l.k (g.W.WordList.words l.words)))
