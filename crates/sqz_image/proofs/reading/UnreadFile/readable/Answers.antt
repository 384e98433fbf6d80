use Rattle.std.proofs.Common.{◌≡◌, ◌≤◌, ℕ, ◌∙◌, List, length, take, min, None, sym, ap, arith}
use Rattle.std.proofs.lemmas.List.{take_min, length-take}
use Rattle.sqz_image.specs.File.{IsHeader, image_bytes, base_address, data_of}
use Rattle.sqz_image.specs.Refusals.{file_fault}
use Rattle.sqz_image.proofs.ReadingLemmas.{data_words_are, file_bounds, HasBounds}
use Rattle.sqz_image.proofs.reading.UnreadFile.readable.Goals as goal
use Rattle.sqz_image.proofs.reading.UnreadFile.readable.Goals.{After-base}

is_header : (c : After-base) → IsHeader c.args.self.now.bytes.items c.in-Some-header.header
is_header c = rw c.in-Some-header.is at c.requires.header

sound : (c : After-base) → file_fault c.args.self.now.bytes.items ≡ None
sound c = ap file_fault (sym c.deref-2.ensures.value) ∙ sym c.in_default-fault.ensures

abbrev data_words : After-base → List ℕ
data_words c = data_of c.in-Some-header.header.order (image_bytes c.args.self.now.bytes.items)

words_are : (c : After-base) → c.of-words.result ≡ data_words c
words_are c =
    rw c.deref-3.ensures.value at c.of-words.ensures
    ∙ data_words_are c.args.self.now.bytes.items c.in-Some-header.header (is_header c) (sound c) c.data_size.result c.data_size.ensures

front_is : (c : After-base) → c.split_at-front.result.0 ≡ take c.in-Some.word (data_words c)
front_is c =
    c.split_at-front.ensures.front
    ∙ ap (λ (n : ℕ). take n c.of-words.result) (c.min.ensures ∙ ap (min c.in-Some.word) c.len.ensures)
    ∙ take_min c.in-Some.word c.of-words.result
    ∙ ap (take c.in-Some.word) (words_are c)

bounds : (c : After-base) → HasBounds (data_words c) (base_address c.in-Some-header.header.words)
bounds c = file_bounds c.args.self.now.bytes.items c.in-Some-header.header (is_header c) (sound c)
    (rw c.deref.ensures.value at c.byte_bounds.ensures)

front_le : (c : After-base) → length c.split_at-front.result.0 ≤ length (data_words c)
front_le c = omega (arith, ap length (front_is c), length-take c.in-Some.word (data_words c))

pub readable_in-requires-clause-few : goal.readable_in-requires-clause-few
readable_in-requires-clause-few c =
    let at = (goal.at.readable_in-requires-clause-few c).After-base in
    omega (arith, front_le at, (bounds at).few)

pub readable_in-requires-clause-within : goal.readable_in-requires-clause-within
readable_in-requires-clause-within c =
    let at = (goal.at.readable_in-requires-clause-within c).After-base in
    omega (arith, front_le at, (bounds at).within, c.base.ensures)

pub returns-clause-objects : goal.returns-clause-objects
returns-clause-objects c =
    let at = (goal.at.returns-clause-objects c).After-base in
    record {
      header = c.in-Some-header.header;
      is_header = is_header at;
      word = c.in-Some.word;
      word_is = sym c.unread_word.ensures ∙ c.in-Some.is;
      before = rw (c.base.ensures, front_is at) at c.in_ok-readable.ensures;
    }
