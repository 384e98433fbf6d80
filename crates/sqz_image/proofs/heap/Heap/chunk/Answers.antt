use Rattle.std.proofs.Common.{◌≡◌, ℕ, List, drop, sym, ap, subst, ◌∙◌, arith}
use Rattle.std.specs.List.{concat}
use Rattle.sqz_object.specs.Reading.{BeginsWith, description}
use Rattle.sqz_image.specs.Objects.{object_at, chunk_words}
use Rattle.sqz_image.proofs.HeapLemmas.{stands_at, chunk_there, begins_there}
use Rattle.sqz_image.proofs.heap.Heap.chunk.Goals as goal
use Rattle.sqz_image.proofs.heap.Heap.chunk.Goals.{After-first, After-known_chunk}

-- the words from the object's first word on
words_are : (c : After-first) → drop (object_at c.args.self.now c.args.object).first (concat c.args.self.now.chunks)
    ≡ drop c.first.result c.data.result
words_are c =
    ap (λ (n : ℕ). drop n (concat c.args.self.now.chunks)) (sym c.first.ensures.first) ∙ ap (drop c.first.result) (sym c.data.ensures.words)

-- what is read is what the chunk's header says
read : (c : After-known_chunk) → c.known_chunk.result ≡ description (chunk_words c.args.self.now c.args.object)
read c =
    let here = stands_at c.args.self.now c.data.ensures.chunks c.args.object c.requires in
    chunk_there here c.known_chunk.result
    (subst (λ (words : List ℕ). BeginsWith words c.known_chunk.result) (sym (words_are (goal.at.After-known_chunk c).After-first))
    c.known_chunk.ensures)

pub known_chunk-requires-clause-begins : goal.known_chunk-requires-clause-begins
known_chunk-requires-clause-begins c =
    let here = stands_at c.args.self.now c.data.ensures.chunks c.args.object c.requires in (
      description (chunk_words c.args.self.now c.args.object),
      subst (λ (words : List ℕ). BeginsWith words (description (chunk_words c.args.self.now c.args.object)))
          (words_are (goal.at.known_chunk-requires-clause-begins c).After-first) (begins_there here),
    )

pub returns-clause-described : goal.returns-clause-described
returns-clause-described c = read (goal.at.returns-clause-described c).After-known_chunk

pub returns-clause-headed : goal.returns-clause-headed
returns-clause-headed c =
    let here = stands_at c.args.self.now c.data.ensures.chunks c.args.object c.requires in
    rw (read (goal.at.returns-clause-headed c).After-known_chunk) here.header

pub returns-clause-few : goal.returns-clause-few
returns-clause-few c =
    rw (read (goal.at.returns-clause-few c).After-known_chunk) (omega (arith, c.first.ensures.inside))
