-- The data of an image as a sequence of chunks, and the word at which it stops being one.
use Rattle.std.specs.Prelude.{◌≡◌, ℕ, ◌+◌, ◌/◌, ◌<◌, ◌==◌, Bool, nat_lt, not, if◌then◌else◌}
use Rattle.std.specs.Prelude.{List, length, take, drop, slice_index, Option, Some, None}
use Rattle.std.specs.List.{concat, AllByRecursion, list_all}
use Rattle.sqz_object.specs.declared.chunk.Kind.{Kind}
use Rattle.sqz_object.specs.declared.chunk.Kind.TheVariants.{Three, Two, Free, Short}
use Rattle.sqz_object.specs.declared.chunk.ChunkFault.{ChunkFault}
use Rattle.sqz_object.specs.declared.chunk.ChunkFault.TheVariants.{ZeroSize, HeaderMismatch, Overrun}
use Rattle.sqz_object.specs.Chunk.{header_type, size_field, IsChunk, chunk_kind, before, base_word}

-- the words are these chunks in sequence, with no gap between them
pub record IsPartition (words : List ℕ) (chunks : List (List ℕ)) : Type 0 where
  pub each : AllByRecursion IsChunk chunks
  pub whole : concat chunks ≡ words

-- the size in words, from the base header on, that a header states; by its kind, first word and
-- base header
abbrev pub size_stated : Kind → ℕ → ℕ → ℕ
size_stated Three first base = first / 4
size_stated Two first base = size_field base
size_stated Free first base = first / 4
size_stated Short first base = size_field base

-- the size in words, from the base header on, that the header at the front states
abbrev pub stated_size : Kind → List ℕ → ℕ
stated_size kind words = size_stated kind (slice_index words 0) (base_word words)

-- the length in words of the chunk that the header at the front states
abbrev pub stated_length : List ℕ → ℕ
stated_length words = before words + stated_size (chunk_kind words) words

-- whether the header words at the front all have one type
abbrev pub is_of_one_type : List ℕ → Bool
is_of_one_type words =
    list_all (λ word. header_type word == header_type (slice_index words 0)) (take (before words + 1) words)

-- why no chunk begins with these words: the first of four reasons that applies
abbrev pub chunk_fault : List ℕ → Option ChunkFault
chunk_fault words =
    if nat_lt (length words) (before words + 1) then Some Overrun
    else (if not (is_of_one_type words) then Some HeaderMismatch
    else (if stated_size (chunk_kind words) words == 0 then Some ZeroSize
    else (if nat_lt (length words) (stated_length words) then Some Overrun
    else None)))

-- the words up to index `place` are chunks, and at `place` no chunk begins, for this reason
pub record IsStuck (words : List ℕ) (place : ℕ) (fault : ChunkFault) : Type 0 where
  pub inside : place < length words
  pub before_it : (chunks : List (List ℕ)) × IsPartition (take place words) chunks
  pub none : (count : ℕ) → IsChunk (take count (drop place words)) → ⊥
  pub reason : chunk_fault (drop place words) ≡ Some fault
