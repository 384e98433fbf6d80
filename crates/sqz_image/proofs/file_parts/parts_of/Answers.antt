use Rattle.std.proofs.Common.{◌≡◌, ℕ, ap, sym, ◌∙◌, take, None, arith}
use Rattle.std.proofs.lemmas.Result.{err_from_is_err_and}
use Rattle.sqz_image.specs.Refusals.{file_fault}
use Rattle.sqz_image.proofs.ReadingLemmas.{data_end, data_words_are, file_bounds, refused-memory}
use Rattle.sqz_image.proofs.file_parts.parts_of.Goals as goal

pub of-requires-clause-few : goal.of-requires-clause-few
of-requires-clause-few c =
    let sound : file_fault c.args.file.now ≡ None = sym c.in_default.ensures in
    rw (data_words_are c.args.file.now c.args.header.now c.requires sound c.data_size.result c.data_size.ensures)
    (file_bounds c.args.file.now c.args.header.now c.requires sound c.byte_bounds.ensures).few

pub of-requires-clause-within : goal.of-requires-clause-within
of-requires-clause-within c =
    let sound : file_fault c.args.file.now ≡ None = sym c.in_default.ensures in
    rw (data_words_are c.args.file.now c.args.header.now c.requires sound c.data_size.result c.data_size.ensures)
    (rw c.base-base.ensures (file_bounds c.args.file.now c.args.header.now c.requires sound c.byte_bounds.ensures).within)

pub returns-in_err-index-clause-refused : goal.returns-in_err-index-clause-refused
returns-in_err-index-clause-refused c =
    let sound : file_fault c.args.file.now ≡ None = sym c.in_default.ensures in
    let from = c.from_residual-in_err-index in
    let p = err_from_is_err_and from.result from.ensures.1 in
    rw (p.1, p.2) (refused-memory c.args.file.now c.args.header.now.words c.args.header.now.order sound c.requires.order c.requires.words
    c.in_err-index.field-0.0 (rw (data_words_are c.args.file.now c.args.header.now c.requires sound c.data_size.result c.data_size.ensures)
    at rw (c.base-base.ensures, c.special-special.ensures) at c.in_err-index.ensures.refused))

pub returns-clause-parts : goal.returns-clause-parts
returns-clause-parts c =
    let sound : file_fault c.args.file.now ≡ None = sym c.in_default.ensures in
    let inside = data_end c.args.file.now c.args.header.now c.requires sound c.data_size.result c.data_size.ensures in
    let words_are = data_words_are c.args.file.now c.args.header.now c.requires sound c.data_size.result c.data_size.ensures in
    record {
      header = c.requires;
      sound = sound;
      prefix = c.in_ok-prefix.ensures.items ∙ ap (λ (n : ℕ). take n c.args.file.now) c.requires.offset;
      ordered = omega arith;
      inside = inside;
      words_are = words_are;
      kept = rw words_are at rw (c.base-base.ensures, c.special-special.ensures) at c.in_ok-index.ensures.kept;
    }
