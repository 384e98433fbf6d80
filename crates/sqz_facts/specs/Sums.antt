-- How many words the chunks of an object memory have, by what the chunks are.
use Rattle.std.specs.Prelude.{ℕ, Bool, List, length}
use Rattle.std.specs.List.{concat}
use Rattle.sqz_image.specs.Objects.{objects_of, words_in}
use Rattle.sqz_trace.specs.Live.{marked}
use Rattle.sqz_facts.specs.declared.sums.ChunkSums.{ChunkSums}
use Rattle.sqz_trace.specs.Dead.{unmarked}
use Rattle.sqz_facts.specs.FreeChunks.{free_among}

-- the sums over some chunks
abbrev pub sums_of : List Bool → List (List ℕ) → ChunkSums
sums_of marks chunks = record {
  live_words = words_in (marked marks (objects_of chunks));
  dead_words = words_in (unmarked marks (objects_of chunks));
  free_chunks = length (free_among chunks);
  free_words = length (concat (free_among chunks));
}
