-- What is kept of an object's header next to its words.
use Rattle.std.specs.Prelude.{◌≡◌, ◌^◌, ◌<◌, ℕ, List}
use Rattle.sqz_object.specs.declared.chunk.Chunk.{Chunk}
use Rattle.sqz_object.specs.Reading.{description}

-- the header that the words state; all words that it states are there
pub record IsHeaderOf (words : List ℕ) (header : Chunk) : Type 0 where
  pub described : header ≡ description words
  pub headed : header.before < header.length
  pub few : header.length < 2 ^ 30
