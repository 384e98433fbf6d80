-- The chunk that has a data word, and where it lies.
use Rattle.std.specs.Prelude.{◌≡◌, ℕ, ◌+◌, ◌<◌, ◌≤◌, List, ◌∷◌, ◌++◌, length}
use Rattle.std.specs.List.{concat}
use Rattle.sqz_object.specs.Chunk.{IsChunk}
use Rattle.sqz_object.specs.Reading.{description}
use Rattle.sqz_image.specs.Objects.{Memory, objects_of}
use Rattle.sqz_facts.specs.declared.placed.PlacedChunk.{PlacedChunk}

-- the chunk, which has the data word, lies there
pub record HasWord (memory : Memory) (word : ℕ) (placed : PlacedChunk) : Type 0 where
  pub front : List (List ℕ)
  pub chunk : List ℕ
  pub rest : List (List ℕ)
  pub parts : memory.chunks ≡ front ++ chunk ∷ rest
  pub is_chunk : IsChunk chunk
  pub header : placed.header ≡ description chunk
  pub object : placed.object ≡ length (objects_of front)
  pub begins : placed.first ≡ length (concat front)
  pub from : placed.first ≤ word
  pub below : word < placed.first + length chunk
  pub inside : placed.first + length chunk ≤ length (concat memory.chunks)
