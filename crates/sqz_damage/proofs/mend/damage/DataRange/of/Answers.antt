use Rattle.std.proofs.Common.{◌≡◌, ◌∙◌, ◌+◌, ◌-◌, ◌*◌, ◌/◌, ℕ, List, length, take, drop, sym, ap, arith}
use Rattle.std.proofs.lemmas.List.{length-drop, length-take, drop-drop, take-take}
use Rattle.sqz_object.specs.Bytes.{words_of}
use Rattle.sqz_object.proofs.WordLemmas.{length-words_of}
use Rattle.sqz_image.specs.File.{data_size, header_offset, image_bytes}
use Rattle.sqz_damage.specs.Damaged.{words_there}
use Rattle.sqz_damage.proofs.DataLemmas.{words_of-whole}
use Rattle.sqz_damage.proofs.mend.damage.DataRange.of.Goals as goal

-- the bytes of the data, those after the last whole word too
abbrev bytes_there : goal.After-min-there → List ℕ
bytes_there c = take (data_size c.args.header.now.words) (drop 64 (image_bytes c.args.file.now))

length_there : (c : goal.After-min-there) → length (bytes_there c) ≡ c.min-there.result
length_there c =
    let offset = c.requires.is_header.offset in
    omega (
      arith,
      length-take (data_size c.args.header.now.words) (drop 64 (image_bytes c.args.file.now)),
      length-drop 64 (image_bytes c.args.file.now),
      length-drop {A = ℕ} (header_offset c.args.file.now) c.args.file.now,
      c.min-there.ensures,
      c.data_size.ensures,
      offset,
    )

-- they spell the data words
words_are : (c : goal.After-min-there)
    → words_of c.args.header.now.order (bytes_there c) ≡ words_there c.args.file.now c.args.header.now
words_are c =
    ap (λ (words : List ℕ). words_of c.args.header.now.order (take (data_size words) (drop 64 (image_bytes c.args.file.now))))
    c.requires.is_header.words

-- they begin where the header ends
bytes_are : (c : goal.After-min-there) → drop (c.args.header.now.offset + 64) c.args.file.now ≡ drop 64 (image_bytes c.args.file.now)
bytes_are c =
    sym (drop-drop 64 c.args.header.now.offset c.args.file.now)
    ∙ ap (λ (n : ℕ). drop 64 (drop n c.args.file.now)) c.requires.is_header.offset

pub returns-clause-end : goal.returns-clause-end
returns-clause-end c =
    omega (arith, length_there c, length-words_of c.args.header.now.order (bytes_there c), ap (length {A = ℕ}) (words_are c))

pub returns-clause-words : goal.returns-clause-words
returns-clause-words c =
    let order = c.args.header.now.order in
    let count = c.min-there.result / 4 in
    let size = data_size c.args.header.now.words in
    let after = drop 64 (image_bytes c.args.file.now) in
    let some : c.args.header.now.offset + 64 + c.min-there.result / 4 * 4 - (c.args.header.now.offset + 64) ≡ 4 * count = omega arith in
    ap (λ (n : ℕ). words_of order (take n (drop (c.args.header.now.offset + 64) c.args.file.now))) some
    ∙ ap (λ (bytes : List ℕ). words_of order (take (4 * count) bytes)) (bytes_are c)
    ∙ ap (words_of order) (sym (take-take (4 * count) size after (omega (arith, c.min-there.ensures, c.data_size.ensures))))
    ∙ words_of-whole order (bytes_there c) count (ap (λ (n : ℕ). n / 4) (sym (length_there c)))
    ∙ words_are c
