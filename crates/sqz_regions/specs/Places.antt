-- The new address (place) of an object in the compacted memory: after the marked objects below it.
use Rattle.std.specs.Prelude.{ℕ, ◌+◌, ◌*◌, ◌==◌, Bool, if◌then◌else◌, List, Option, Some, None}
use Rattle.sqz_object.specs.Chunk.{before}
use Rattle.sqz_image.specs.Objects.{Memory, chunk_words}
use Rattle.sqz_trace.specs.Live.{live_words_below}

-- the address of the object's base header in the compacted memory
abbrev pub place : Memory → List Bool → ℕ → ℕ
place memory marks index =
    memory.base + 4 * (live_words_below memory marks index + before (chunk_words memory index))

-- the table of new addresses has an entry for each object: its new address, or this number, which
-- is no address, if it has none
abbrev pub no_place : ℕ
no_place = 4294967295

-- the new address that an entry stands for
abbrev pub place_of_entry : ℕ → Option ℕ
place_of_entry entry = if entry == no_place then None else Some entry
