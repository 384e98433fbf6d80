-- What an object's header becomes as it moves.
-- Serves `mover::Mover::push_header`, `moved_words::moved_word`, `LengthLemmas`, `MovedLemmas` and
-- `MovedShapeLemmas`.
use Rattle.std.proofs.Common.{◌≡◌, ℕ, zero, suc, ◌+◌, ◌<◌, ◌≤◌, Bool, false, List, [], ◌∷◌, length, slice_index, get_or}
use Rattle.std.proofs.Common.{refl, sym, ap, subst, ◌∙◌, arith}
use Rattle.std.proofs.lemmas.List.{get_or_append_left}
use Rattle.sqz_object.specs.declared.chunk.Kind.{Kind}
use Rattle.sqz_object.specs.declared.chunk.Kind.TheVariants.{Three, Two, Free, Short}
use Rattle.sqz_object.specs.Chunk.{chunk_kind, words_before, before}
use Rattle.sqz_image.specs.Objects.{Memory}
use Rattle.sqz_trace.specs.declared.weak.Weak.{Weak}
use Rattle.sqz_slide.specs.ClassWord.{is_class_word}
use Rattle.sqz_slide.specs.Moved.{moved_class, moved_header, moved_fields, moved}

module _ (memory : Memory) (marks : List Bool) where
  -- a header keeps its length
  pub length-moved_header : (kind : Kind) (chunk : List ℕ) → words_before kind < length chunk
      → length (moved_header memory marks kind chunk) ≡ words_before kind + 1
  length-moved_header Three (size ∷ class ∷ base ∷ fields) headed = refl
  length-moved_header Two (class ∷ base ∷ fields) headed = refl
  length-moved_header Free (free ∷ rest) headed = refl
  length-moved_header Short (base ∷ fields) headed = refl
  length-moved_header _ _ headed = absurd (omega arith)

  -- of three header words the class word changes
  moved_header-three : (chunk : List ℕ) → 2 < length chunk
      → moved_header memory marks Three chunk
      ≡ slice_index chunk 0 ∷ moved_class memory marks (slice_index chunk 1) ∷ slice_index chunk 2 ∷ []
  moved_header-three (size ∷ class ∷ base ∷ fields) lt = refl
  moved_header-three _ lt = absurd (omega arith)

  -- of two header words the class word changes
  moved_header-two : (chunk : List ℕ) → 1 < length chunk
      → moved_header memory marks Two chunk ≡ moved_class memory marks (slice_index chunk 0) ∷ slice_index chunk 1 ∷ []
  moved_header-two (class ∷ base ∷ fields) lt = refl
  moved_header-two _ lt = absurd (omega arith)

  module _ (chunk words : List ℕ) (headed : before chunk < length chunk) (same : words ≡ chunk) (class : ℕ) where
    -- three header words after the move, where these words are those of the chunk
    pub moved_header-of_three : chunk_kind chunk ≡ Three → class ≡ moved_class memory marks (slice_index words 1)
        → slice_index words 0 ∷ class ∷ slice_index words 2 ∷ [] ≡ moved_header memory marks (chunk_kind chunk) chunk
    moved_header-of_three is class_is =
        ap (λ (xs : List ℕ). slice_index xs 0 ∷ class ∷ slice_index xs 2 ∷ []) same
        ∙ ap (λ (x : ℕ). slice_index chunk 0 ∷ x ∷ slice_index chunk 2 ∷ [])
        (class_is ∙ ap (λ (xs : List ℕ). moved_class memory marks (slice_index xs 1)) same)
        ∙ sym (moved_header-three chunk (subst (λ (kind : Kind). words_before kind < length chunk) is headed))
        ∙ ap (λ (kind : Kind). moved_header memory marks kind chunk) (sym is)

    -- two header words after the move, the same
    pub moved_header-of_two : chunk_kind chunk ≡ Two → class ≡ moved_class memory marks (slice_index words 0)
        → class ∷ slice_index words 1 ∷ [] ≡ moved_header memory marks (chunk_kind chunk) chunk
    moved_header-of_two is class_is =
        ap (λ (xs : List ℕ). class ∷ slice_index xs 1 ∷ []) same
        ∙ ap (λ (x : ℕ). x ∷ slice_index chunk 1 ∷ [])
        (class_is ∙ ap (λ (xs : List ℕ). moved_class memory marks (slice_index xs 0)) same)
        ∙ sym (moved_header-two chunk (subst (λ (kind : Kind). words_before kind < length chunk) is headed))
        ∙ ap (λ (kind : Kind). moved_header memory marks kind chunk) (sym is)

-- a header word that is no class word stays
header_word : (memory : Memory) (marks : List Bool) (kind : Kind) (chunk : List ℕ) (k : ℕ) → words_before kind < length chunk
    → is_class_word kind k ≡ false → k ≤ words_before kind
    → get_or (moved_header memory marks kind chunk) k 0 ≡ slice_index chunk k
header_word memory marks Three (size ∷ class ∷ base ∷ fields) zero headed is le = refl
header_word memory marks Three (size ∷ class ∷ base ∷ fields) (suc zero) headed is le = absurd cc
header_word memory marks Three (size ∷ class ∷ base ∷ fields) (suc (suc zero)) headed is le = refl
header_word memory marks Three (size ∷ class ∷ base ∷ fields) (suc (suc (suc k))) headed is le = absurd (omega arith)
header_word memory marks Three (size ∷ class ∷ []) k headed is le = absurd (omega arith)
header_word memory marks Three (size ∷ []) k headed is le = absurd (omega arith)
header_word memory marks Two (class ∷ base ∷ fields) zero headed is le = absurd cc
header_word memory marks Two (class ∷ base ∷ fields) (suc zero) headed is le = refl
header_word memory marks Two (class ∷ base ∷ fields) (suc (suc k)) headed is le = absurd (omega arith)
header_word memory marks Two (class ∷ []) k headed is le = absurd (omega arith)
header_word memory marks Free (free ∷ fields) zero headed is le = refl
header_word memory marks Free (free ∷ fields) (suc k) headed is le = absurd (omega arith)
header_word memory marks Short (base ∷ fields) zero headed is le = refl
header_word memory marks Short (base ∷ fields) (suc k) headed is le = absurd (omega arith)
header_word memory marks kind [] k headed is le = absurd (omega arith)

pub moved-header_word : (memory : Memory) (weak : Weak) (marks : List Bool) (chunk : List ℕ) (k : ℕ)
    → before chunk < length chunk → is_class_word (chunk_kind chunk) k ≡ false → k ≤ before chunk
    → get_or (moved memory weak marks chunk) k 0 ≡ slice_index chunk k
moved-header_word memory weak marks chunk k headed is le =
    let size = length-moved_header memory marks (chunk_kind chunk) chunk headed in
    get_or_append_left (moved_header memory marks (chunk_kind chunk) chunk) (moved_fields memory weak marks chunk) 0 k (omega arith)
    ∙ header_word memory marks (chunk_kind chunk) chunk k headed is le
