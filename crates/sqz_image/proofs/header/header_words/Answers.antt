use Rattle.std.proofs.Common.{◌≡◌, ◌≢◌, ◌<◌, length, take, sym, ◌∙◌, below_more, get_or-set_other, get_or-set_same, arith}
use Rattle.std.proofs.lemmas.List.{length-set, length-take, ext_get_or}
use Rattle.sqz_object.specs.Bytes.{words_of}
use Rattle.sqz_object.proofs.WordLemmas.{length-words_of, words_of-at}
use Rattle.sqz_image.proofs.header.header_words.Goals as goal

pub word_at-requires : goal.word_at-requires
word_at-requires c = omega (arith, length-take 64 c.args.bytes.now, c.requires, c.loop-k-test.true)

pub loop-k-preserved : goal.loop-k-preserved
loop-k-preserved c =
    let bytes = take 64 c.args.bytes.now in
    let word = c.word_at.ensures ∙ sym (words_of-at c.args.order bytes c.loop-k.k
    (omega (arith, length-take 64 c.args.bytes.now, c.requires, c.loop-k-test.true))) in
    let in_range : c.loop-k.k < length c.loop-k.words = omega (arith, c.loop-k.invariant.0, c.loop-k-test.true) in (
      length-set c.loop-k.words c.loop-k.k c.word_at.result ∙ c.loop-k.invariant.0,
      below_more _ _ (λ j h.
          let other : j ≢ c.loop-k.k = omega arith in
          rw get_or-set_other (c.loop-k.invariant.1 j h)) (rw get_or-set_same word),
    )

pub returns : goal.returns
returns c =
    let words = words_of c.args.order (take 64 c.args.bytes.now) in
    let sixteen : length words ≡ 16 = omega (
      arith,
      length-words_of c.args.order (take 64 c.args.bytes.now),
      length-take 64 c.args.bytes.now,
      c.requires,
    ) in
    ext_get_or 0 c.loop-k.words words (c.loop-k.invariant.0 ∙ sym sixteen)
    (λ i lt. c.loop-k.invariant.1 i (omega (arith, c.loop-k.invariant.0, c.loop-k-test.false)))
