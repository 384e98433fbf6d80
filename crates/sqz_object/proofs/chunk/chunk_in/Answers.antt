use Rattle.std.proofs.Common.{◌≡◌, ℕ, ◌+◌, ◌-◌, ◌<◌, ◌≤◌, Bool, true, false, List, length, take, drop, slice_index}
use Rattle.std.proofs.Common.{sym, ap, subst, ◌∙◌, arith}
use Rattle.std.proofs.lemmas.List.{length-drop, get_or-drop}
use Rattle.sqz_object.specs.Chunk.{kind_of, words_before}
use Rattle.sqz_object.specs.Partition.{size_stated}
use Rattle.sqz_object.specs.Reading.{BeginsWith, HasNoChunk}
use Rattle.sqz_object.specs.declared.chunk.Chunk.{Chunk}
use Rattle.sqz_object.specs.declared.chunk.ChunkFault.TheVariants.{ZeroSize, HeaderMismatch, Overrun}
use Rattle.sqz_object.specs.declared.chunk.Kind.{Kind}
use Rattle.sqz_object.proofs.ChunkLemmas.{have_type_of, HasNoChunk-short_header, HasNoChunk-mixed_header, HasNoChunk-zero_size}
use Rattle.sqz_object.proofs.ChunkLemmas.{HasNoChunk-overrun, BeginsWith-stated}
use Rattle.sqz_object.proofs.chunk.chunk_in.Goals as goal

-- the header words from a place on, as they were read
module _ (words : List ℕ) (p first count : ℕ) (kind : Kind) (first_is : first ≡ slice_index words p) (kind_is : kind ≡ kind_of first)
    (count_is : count ≡ words_before kind) (inside : p < length words) where
  abbrev rest : List ℕ
  rest = drop p words

  many : length rest ≡ length words - p
  many = length-drop p words

  first_there : slice_index rest 0 ≡ slice_index words p
  first_there =
      let same : p + 0 ≡ p = omega arith in
      get_or-drop p words 0 0 ∙ ap (λ (n : ℕ). slice_index words n) same

  kind_there : kind ≡ kind_of (slice_index rest 0)
  kind_there = kind_is ∙ ap kind_of (first_is ∙ sym first_there)

  short_header : length words - p < count + 1 → HasNoChunk rest Overrun
  short_header short = HasNoChunk-short_header rest kind count kind_there count_is (omega (arith, many))

  module _ (test : Bool) (room : count + 1 ≤ length words - p)
      (test_is : test ≡ have_type_of (slice_index words p) (take (p + count + 1 - p) rest)) where
    types_there : have_type_of (slice_index rest 0) (take (count + 1) rest) ≡ test
    types_there =
        let same : count + 1 ≡ p + count + 1 - p = omega arith in
        ap (λ (word : ℕ). have_type_of word (take (count + 1) rest)) first_there
        ∙ ap (λ (n : ℕ). have_type_of (slice_index words p) (take n rest)) same
        ∙ sym test_is

    mixed_header : test ≡ false → HasNoChunk rest HeaderMismatch
    mixed_header mixed =
        HasNoChunk-mixed_header rest kind count kind_there count_is (omega (arith, many)) (types_there ∙ mixed)

    module _ (one : test ≡ true) (base size : ℕ) (base_is : base ≡ slice_index words (p + count))
        (size_is : size ≡ size_stated kind first base) where
      base_there : base ≡ slice_index rest count
      base_there = base_is ∙ sym (get_or-drop p words count 0)

      size_there : size ≡ size_stated kind (slice_index rest 0) (slice_index rest count)
      size_there =
          size_is
          ∙ ap (λ (word : ℕ). size_stated kind word base) (first_is ∙ sym first_there)
          ∙ ap (size_stated kind (slice_index rest 0)) base_there

      no_size : size ≡ 0 → HasNoChunk rest ZeroSize
      no_size none =
          HasNoChunk-zero_size rest kind count kind_there count_is size (omega (arith, many)) (types_there ∙ one) size_there none

      too_long : 0 < size → length words - p < count + size → HasNoChunk rest Overrun
      too_long some long =
          HasNoChunk-overrun rest kind count kind_there count_is size (omega (arith, many)) (types_there ∙ one) size_there some
          (omega (arith, many))

      begins : 0 < size → count + size ≤ length words - p
          → let chunk : Chunk = record { kind = kind; before = count; length = count + size; base = base } in BeginsWith rest chunk
      begins some enough =
          let chunk : ℕ → Chunk = λ (word : ℕ). record { kind = kind; before = count; length = count + size; base = word } in
          subst (λ (word : ℕ). BeginsWith rest (chunk word)) (sym base_there)
          (BeginsWith-stated rest kind count kind_there count_is size (omega (arith, many)) (types_there ∙ one) size_there some
          (omega (arith, many)))

pub returns-then-count-before-clause-fault : goal.returns-then-count-before-clause-fault
returns-then-count-before-clause-fault g c =
    short_header (g.W.WordList.words c.args.words.now) c.args.p c.word-first.result c.words_before-before.result
    c.kind_of-kind.result c.word-first.ensures c.kind_of-kind.ensures c.words_before-before.ensures.before c.requires.inside
    (omega (arith, c.count.ensures))

pub returns-then-not-is_of_one_type-clause-fault : goal.returns-then-not-is_of_one_type-clause-fault
returns-then-not-is_of_one_type-clause-fault g c =
    mixed_header (g.W.WordList.words c.args.words.now) c.args.p c.word-first.result c.words_before-before.result
    c.kind_of-kind.result c.word-first.ensures c.kind_of-kind.ensures c.words_before-before.ensures.before c.requires.inside
    c.is_of_one_type.result (omega (arith, c.count.ensures)) c.is_of_one_type.ensures c.if-not-is_of_one_type.true

pub returns-then-size-eq0-clause-fault : goal.returns-then-size-eq0-clause-fault
returns-then-size-eq0-clause-fault g c =
    no_size (g.W.WordList.words c.args.words.now) c.args.p c.word-first.result c.words_before-before.result
    c.kind_of-kind.result c.word-first.ensures c.kind_of-kind.ensures c.words_before-before.ensures.before c.requires.inside
    c.is_of_one_type.result (omega (arith, c.count.ensures)) c.is_of_one_type.ensures c.if-not-is_of_one_type.false
    c.word-base.result c.stated_size-size.result c.word-base.ensures c.stated_size-size.ensures c.if-size-eq0.true

pub returns-then-count-length-clause-fault : goal.returns-then-count-length-clause-fault
returns-then-count-length-clause-fault g c =
    too_long (g.W.WordList.words c.args.words.now) c.args.p c.word-first.result c.words_before-before.result
    c.kind_of-kind.result c.word-first.ensures c.kind_of-kind.ensures c.words_before-before.ensures.before c.requires.inside
    c.is_of_one_type.result (omega (arith, c.count.ensures)) c.is_of_one_type.ensures c.if-not-is_of_one_type.false
    c.word-base.result c.stated_size-size.result c.word-base.ensures c.stated_size-size.ensures (omega arith)
    (omega (arith, c.count.ensures))

pub returns-clause-chunk : goal.returns-clause-chunk
returns-clause-chunk g c =
    begins (g.W.WordList.words c.args.words.now) c.args.p c.word-first.result c.words_before-before.result
    c.kind_of-kind.result c.word-first.ensures c.kind_of-kind.ensures c.words_before-before.ensures.before c.requires.inside
    c.is_of_one_type.result (omega (arith, c.count.ensures)) c.is_of_one_type.ensures c.if-not-is_of_one_type.false
    c.word-base.result c.stated_size-size.result c.word-base.ensures c.stated_size-size.ensures (omega arith)
    (omega (arith, c.count.ensures))
