-- The words of test images.
use Rattle.std.specs.Prelude.{ℕ, ◌+◌, ◌*◌, ◌%◌, min, bit_or, List, [], ◌∷◌, ◌++◌, length, drop, replicate}
use Rattle.std.specs.Prelude.{slice_set, Option, None, Some}
use Rattle.std.specs.List.{flat_map}
use Rattle.sqz_test_fixtures.specs.declared.chunks.Chunk.{Chunk}
use Rattle.sqz_test_fixtures.specs.declared.chunks.Chunk.TheVariants.{Short, Each, Fixed, Array, LongArray, Classed, Instance}
use Rattle.sqz_test_fixtures.specs.declared.chunks.Chunk.TheVariants.{Weak, Long, Free, Words}
use Rattle.sqz_test_fixtures.specs.declared.images.Change.{Change}
use Rattle.sqz_test_fixtures.specs.declared.images.TestImage.{TestImage}

-- the base header with these parts and a hash of 0
abbrev pub base_header_of : ℕ → ℕ → ℕ → ℕ → ℕ
base_header_of kind compact format size = kind + size % 64 * 4 + format % 16 * 256 + compact % 32 * 4096

-- the number of words, at most 999
abbrev pub count : List ℕ → ℕ
count words = min (length words) 999

-- a chunk with a header of one word
abbrev pub short_words : ℕ → ℕ → List ℕ → List ℕ
short_words compact format fields = base_header_of 3 compact format (1 + count fields) ∷ fields

-- a chunk with a header of two words
abbrev pub classed_words : ℕ → ℕ → ℕ → List ℕ → List ℕ
classed_words class compact format fields =
    bit_or class 1 ∷ base_header_of 1 compact format (1 + count fields) ∷ fields

-- objects that differ in compact index and format alone
abbrev pub each_words : List (ℕ × ℕ) → List ℕ → List ℕ
each_words kinds fields = flat_map (λ kind. short_words kind.0 kind.1 fields) kinds

-- an array of 29 fields
abbrev pub long_array_words : List ℕ → ℕ → List ℕ
long_array_words first last =
    base_header_of 3 3 2 30 ∷ (first ++ drop (min (length first) 28) (replicate 28 1) ++ last ∷ [])

-- the words of a chunk
abbrev pub chunk_words : Chunk → List ℕ
chunk_words (Short compact format fields) = short_words compact format fields.now
chunk_words (Each kinds fields) = each_words kinds.now fields.now
chunk_words (Fixed fields) = short_words 1 1 fields.now
chunk_words (Array fields) = short_words 3 2 fields.now
chunk_words (LongArray first last) = long_array_words first.now last
chunk_words (Classed class compact format fields) = classed_words class compact format fields.now
chunk_words (Instance class fields) = classed_words class 0 1 fields.now
chunk_words (Weak class fields) = classed_words class 0 4 fields.now
chunk_words (Long class compact format first others) =
    (4 * (1 + count first.now + count others.now)) ∷ class ∷ base_header_of 0 compact format 0 ∷ (first.now ++ others.now)
chunk_words (Free others) = bit_or (4 * (1 + count others.now)) 2 ∷ others.now
chunk_words (Words words) = words.now

-- the words after a change, if there is one
abbrev pub changed_words : Option Change → List ℕ → List ℕ
changed_words None words = words
changed_words (Some change) words = slice_set words change.index change.word

-- the data words of an image
abbrev pub data_words : TestImage → List ℕ
data_words image = changed_words image.changed (flat_map chunk_words image.chunks.now)
