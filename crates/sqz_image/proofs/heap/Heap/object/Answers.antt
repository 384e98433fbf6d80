use Rattle.std.proofs.Common.{◌≡◌, length, ap, sym, ◌∙◌, arith}
use Rattle.sqz_object.specs.declared.chunk.Chunk.{Chunk}
use Rattle.sqz_object.specs.Reading.{description}
use Rattle.sqz_image.specs.Objects.{chunk_words}
use Rattle.sqz_image.proofs.HeapLemmas.{stands_at, words_there}
use Rattle.sqz_image.proofs.heap.Heap.object.Goals as goal
use Rattle.sqz_image.proofs.heap.Heap.object.Goals.{After-part-words}

-- the words that are lent are the object's
lent : (c : After-part-words) → c.part-words.result ≡ chunk_words c.args.self.now c.args.object
lent c =
    let here = stands_at c.args.self.now c.data.ensures.chunks c.args.object c.requires in
    let size = ap (λ (chunk : Chunk). chunk.length) c.chunk-header.ensures.described in
    c.part-words.ensures
    ∙ rw c.data.ensures.words (words_there here c.first-first.result c.chunk-header.result.length c.first-first.ensures.first size)

pub part-words-requires-clause-inside : goal.part-words-requires-clause-inside
part-words-requires-clause-inside c =
    let here = stands_at c.args.self.now c.data.ensures.chunks c.args.object c.requires in
    let size = ap (λ (chunk : Chunk). chunk.length) c.chunk-header.ensures.described in
    omega (arith, here.stands.inside, c.first-first.ensures.first, size, ap length c.data.ensures.words)

pub new-requires-clause-described : goal.new-requires-clause-described
new-requires-clause-described c =
    c.chunk-header.ensures.described ∙ ap description (sym (lent (goal.at.new-requires-clause-described c).After-part-words))

pub returns : goal.returns
returns c = c.new.ensures ∙ lent (goal.at.returns c).After-part-words
