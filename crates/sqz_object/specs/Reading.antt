-- What the words from an index on begin with.
use Rattle.std.specs.Prelude.{◌≡◌, ◌≤◌, ℕ, List, length, take, Some}
use Rattle.sqz_object.specs.declared.chunk.Chunk.{Chunk}
use Rattle.sqz_object.specs.declared.chunk.ChunkFault.{ChunkFault}
use Rattle.sqz_object.specs.Chunk.{IsChunk, IsChunkOf, chunk_kind, words_before, before, base_word}
use Rattle.sqz_object.specs.Partition.{chunk_fault}

-- what the header words of a chunk state
abbrev pub description : List ℕ → Chunk
description chunk =
    record {
      kind = chunk_kind chunk;
      before = before chunk;
      length = length chunk;
      base = base_word chunk;
    }

-- the words begin with this chunk
pub record BeginsWith (words : List ℕ) (chunk : Chunk) : Type 0 where
  pub inside : chunk.length ≤ length words
  pub is_chunk : IsChunkOf chunk.kind (take chunk.length words)
  pub before : chunk.before ≡ words_before chunk.kind
  pub base : chunk.base ≡ base_word (take chunk.length words)

-- the words begin with no chunk, for this reason
pub record HasNoChunk (words : List ℕ) (fault : ChunkFault) : Type 0 where
  pub none : (count : ℕ) → IsChunk (take count words) → ⊥
  pub reason : chunk_fault words ≡ Some fault
