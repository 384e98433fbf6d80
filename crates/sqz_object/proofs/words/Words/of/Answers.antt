use Rattle.std.proofs.Common.{refl}
use Rattle.sqz_object.proofs.WordLemmas.{words_of-chunks}
use Rattle.sqz_object.proofs.words.Words.of.Goals as goal

pub returns : goal.returns
returns c = rw c.as_chunks.ensures.front (words_of-chunks c.args.order _ c.args.bytes.now refl)
