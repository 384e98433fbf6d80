use Rattle.std.proofs.Common.{◌+◌, ◌/◌, ℕ, take, ap, ◌∙◌, arith}
use Rattle.sqz_object.specs.Bytes.{spelling_of}
use Rattle.sqz_histogram.proofs.BytesLemmas.{take-spelling_of}
use Rattle.sqz_histogram.proofs.bytes.bytes_in.Goals as goal

pub returns : goal.returns
returns c =
    let order = c.args.order in
    let words = c.args.words.now in
    let count = c.args.count in
    c.truncate.ensures.items
    ∙ ap (take count) (c.in_ok-bytes.ensures ∙ ap (spelling_of order) c.split_at-front.ensures.front)
    ∙ ap (λ (most : ℕ). take count (spelling_of order (take most words))) (rw c.len.ensures at c.min.ensures)
    ∙ take-spelling_of order words count (count / 4 + 1) c.requires (omega arith)
