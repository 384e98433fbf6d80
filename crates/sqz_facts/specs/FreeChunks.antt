-- The chunks of an object memory that are not objects.
use Rattle.std.specs.Prelude.{◌≡◌, ℕ, ◌+◌, ◌*◌, false, not, List, ◌∷◌, ◌++◌, length, filter}
use Rattle.std.specs.List.{concat}
use Rattle.sqz_object.specs.Chunk.{is_object}
use Rattle.sqz_image.specs.Objects.{Memory}

-- the free chunks of a list of chunks, in order
abbrev pub free_among : List (List ℕ) → List (List ℕ)
free_among chunks = filter (λ chunk. not (is_object chunk)) chunks

abbrev pub free_chunks : Memory → List (List ℕ)
free_chunks memory = free_among memory.chunks

-- the bytes of the free chunks
abbrev pub free_bytes : Memory → ℕ
free_bytes memory = 4 * length (concat (free_chunks memory))

-- a free chunk with this number of bytes begins at the address
pub record IsFreeChunk (memory : Memory) (address bytes : ℕ) : Type 0 where
  pub front : List (List ℕ)
  pub chunk : List ℕ
  pub rest : List (List ℕ)
  pub placed : memory.chunks ≡ front ++ chunk ∷ rest
  pub free : is_object chunk ≡ false
  pub begins : address ≡ memory.base + 4 * length (concat front)
  pub sized : bytes ≡ 4 * length chunk
