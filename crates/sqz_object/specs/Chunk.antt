-- A chunk: an object with its header words, or a free stretch of the object memory.
use Rattle.std.specs.Prelude.{◌≡◌, ℕ, ◌+◌, ◌/◌, ◌%◌, ◌==◌, Bool, if◌then◌else◌, List, [], ◌∷◌, length, slice_index, drop}
use Rattle.sqz_object.specs.declared.chunk.Kind.{Kind}
use Rattle.sqz_object.specs.declared.chunk.Kind.TheVariants.{Three, Two, Free, Short}
use Rattle.sqz_object.specs.Value.{base_of}

-- the type of a header word: its low two bits
abbrev pub header_type : ℕ → ℕ
header_type word = word % 4

-- the size in words that a base header states
abbrev pub size_field : ℕ → ℕ
size_field base = (base_of base).size_field

-- a chunk of this kind: all its header words have the kind's type, and its length is the stated
-- one
abbrev pub IsChunkOf : Kind → List ℕ → Type 0
IsChunkOf Three (size ∷ class ∷ base ∷ fields) =
    (header_type size ≡ 0) × (header_type class ≡ 0) × (header_type base ≡ 0) × (length (base ∷ fields) ≡ size / 4)
IsChunkOf Two (class ∷ base ∷ fields) =
    (header_type class ≡ 1) × (header_type base ≡ 1) × (length (base ∷ fields) ≡ size_field base)
IsChunkOf Free (free ∷ rest) = (header_type free ≡ 2) × (length (free ∷ rest) ≡ free / 4)
IsChunkOf Short (base ∷ fields) = (header_type base ≡ 3) × (length (base ∷ fields) ≡ size_field base)
IsChunkOf _ _ = ⊥

abbrev pub IsChunk : List ℕ → Type 0
IsChunk chunk = (kind : Kind) × IsChunkOf kind chunk

-- the kind that a header type stands for
abbrev pub kind_of : ℕ → Kind
kind_of word =
    if header_type word == 0 then Three else (if header_type word == 1 then Two else (if header_type word == 2 then Free else Short))

-- the kind of the chunk that begins with these words
abbrev pub chunk_kind : List ℕ → Kind
chunk_kind chunk = kind_of (slice_index chunk 0)

-- the number of header words before the base header
abbrev pub words_before : Kind → ℕ
words_before Three = 2
words_before Two = 1
words_before Free = 0
words_before Short = 0

abbrev pub before : List ℕ → ℕ
before chunk = words_before (chunk_kind chunk)

-- the base header word; for a free chunk, its only header word
abbrev pub base_word : List ℕ → ℕ
base_word chunk = slice_index chunk (before chunk)

abbrev pub format : List ℕ → ℕ
format chunk = (base_of (base_word chunk)).format

abbrev pub compact_index : List ℕ → ℕ
compact_index chunk = (base_of (base_word chunk)).compact

-- the words after the base header
abbrev pub fields : List ℕ → List ℕ
fields chunk = drop (before chunk + 1) chunk

-- a free chunk is not an object
abbrev pub is_object : List ℕ → Bool
is_object [] = Bool.false
is_object (word ∷ rest) = if header_type word == 2 then Bool.false else Bool.true
