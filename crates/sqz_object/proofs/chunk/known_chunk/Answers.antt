use Rattle.std.proofs.Common.{◌≡◌, ℕ, ◌+◌, ◌<◌, List, length, take, drop, slice_index, sym, ap, subst, ◌∙◌, arith}
use Rattle.std.proofs.lemmas.List.{length-drop, get_or-drop, length-take-le}
use Rattle.sqz_object.specs.Chunk.{kind_of, chunk_kind, words_before, before, base_word}
use Rattle.sqz_object.specs.Partition.{size_stated, stated_length}
use Rattle.sqz_object.specs.Reading.{BeginsWith}
use Rattle.sqz_object.specs.declared.chunk.Chunk.{Chunk}
use Rattle.sqz_object.specs.declared.chunk.Kind.{Kind}
use Rattle.sqz_object.proofs.ChunkLemmas.{chunk_kind_is, chunk_kind-take, base_word-take, chunk_has_header, stated_length_at_prefix}
use Rattle.sqz_object.proofs.ChunkLemmas.{same_chunk}
use Rattle.sqz_object.proofs.chunk.known_chunk.Goals as goal

-- the chunk with which the words from a place on begin, by its header
module _ (words : List ℕ) (p : ℕ) (begins : (chunk : Chunk) × BeginsWith (drop p words) chunk) where
  abbrev rest : List ℕ
  rest = drop p words

  abbrev chunk : Chunk
  chunk = begins.0

  headed : words_before chunk.kind < chunk.length
  headed =
      omega (arith, chunk_has_header chunk.kind (take chunk.length rest) begins.1.is_chunk, length-take-le chunk.length rest begins.1.inside)

  inside : p + words_before chunk.kind < length words
  inside = omega (arith, headed, begins.1.inside, length-drop p words)

  first_there : slice_index rest 0 ≡ slice_index words p
  first_there =
      let same : p + 0 ≡ p = omega arith in
      get_or-drop p words 0 0 ∙ ap (λ (n : ℕ). slice_index words n) same

  kind_there : chunk_kind rest ≡ chunk.kind
  kind_there =
      let some : 0 < chunk.length = omega (arith, headed) in
      sym (chunk_kind-take chunk.length rest some) ∙ chunk_kind_is chunk.kind (take chunk.length rest) begins.1.is_chunk

  stated : stated_length rest ≡ chunk.length
  stated =
      stated_length_at_prefix chunk.kind chunk.length rest begins.1.is_chunk ∙ length-take-le chunk.length rest begins.1.inside

  -- the same of what was read of it
  module _ (first count base size : ℕ) (kind : Kind) (first_is : first ≡ slice_index words p) (kind_is : kind ≡ kind_of first)
      (count_is : count ≡ words_before kind) where
    kind_read : kind ≡ chunk_kind rest
    kind_read = kind_is ∙ ap kind_of (first_is ∙ sym first_there)

    count_read : count ≡ before rest
    count_read = count_is ∙ ap words_before kind_read

    room : p + count < length words
    room = omega (arith, inside, count_read, ap words_before kind_there)

    module _ (base_is : base ≡ slice_index words (p + count)) (size_is : size ≡ size_stated kind first base) where
      base_read : base ≡ base_word rest
      base_read = base_is ∙ sym (get_or-drop p words count 0) ∙ ap (λ (n : ℕ). slice_index rest n) count_read

      size_read : size ≡ size_stated (chunk_kind rest) (slice_index rest 0) (base_word rest)
      size_read =
          size_is
          ∙ ap (λ (k : Kind). size_stated k first base) kind_read
          ∙ ap (λ (word : ℕ). size_stated (chunk_kind rest) word base) (first_is ∙ sym first_there)
          ∙ ap (size_stated (chunk_kind rest) (slice_index rest 0)) base_read

      is_chunk : chunk ≡ record { kind = kind; before = count; length = count + size; base = base }
      is_chunk =
          let before_is : chunk.before ≡ before rest = begins.1.before ∙ ap words_before (sym kind_there) in
          let within : before rest < chunk.length = omega (arith, headed, ap words_before kind_there) in
          same_chunk (sym kind_there ∙ sym kind_read) (before_is ∙ sym count_read) (omega (arith, stated, count_read, size_read))
          (begins.1.base ∙ base_word-take chunk.length rest within ∙ sym base_read)

      read : BeginsWith rest (record { kind = kind; before = count; length = count + size; base = base })
      read = subst (BeginsWith rest) is_chunk begins.1

pub word-base-requires : goal.word-base-requires
word-base-requires g c =
    room (g.W.WordList.words c.args.words.now) c.args.p c.requires.begins c.word-first.result c.words_before-before.result 0 0
    c.kind_of-kind.result c.word-first.ensures c.kind_of-kind.ensures c.words_before-before.ensures.before

pub returns : goal.returns
returns g c =
    read (g.W.WordList.words c.args.words.now) c.args.p c.requires.begins c.word-first.result c.words_before-before.result
    c.word-base.result c.stated_size.result c.kind_of-kind.result c.word-first.ensures c.kind_of-kind.ensures
    c.words_before-before.ensures.before c.word-base.ensures c.stated_size.ensures
