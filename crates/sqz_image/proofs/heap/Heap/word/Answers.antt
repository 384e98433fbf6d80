use Rattle.std.proofs.Common.{ℕ, ◌+◌, List, length, slice_index, ap, ◌∙◌, arith}
use Rattle.std.specs.List.{concat}
use Rattle.sqz_image.proofs.HeapLemmas.{stands_at, word_there}
use Rattle.sqz_image.proofs.heap.Heap.word.Goals as goal

pub at-requires : goal.at-requires
at-requires c =
    let here = stands_at c.args.self.now c.data.ensures.chunks c.args.object c.requires.object in
    omega (arith, here.stands.inside, c.first.ensures.first, c.requires.word, ap length c.data.ensures.words)

pub returns : goal.returns
returns c =
    let here = stands_at c.args.self.now c.data.ensures.chunks c.args.object c.requires.object in
    c.at.ensures
    ∙ ap (λ (words : List ℕ). slice_index words (c.first.result + c.args.k)) c.data.ensures.words
    ∙ ap (λ (n : ℕ). slice_index (concat c.args.self.now.chunks) (n + c.args.k)) c.first.ensures.first
    ∙ word_there here c.args.k c.requires.word
