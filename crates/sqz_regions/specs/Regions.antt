-- Regions of an object memory: where its data words are cut, and which objects begin in each
-- region.
use Rattle.std.specs.Prelude.{ℕ, ◌+◌, ◌-◌, ◌/◌, ◌==◌, nat_le, nat_lt, Bool, List, length, filter, count_by}
use Rattle.std.specs.List.{concat}
use Rattle.sqz_image.specs.Objects.{Memory, Object, objects, object_at, words_in}
use Rattle.sqz_trace.specs.Live.{live}

-- a cut of data words: at each multiple of a number of words from that number on, or at these words
pub data Cutting : Type 0 where
  Every : ℕ → Cutting
  At : List ℕ → Cutting

-- the number of cut points that are not above a word
abbrev pub points_up_to : Cutting → ℕ → ℕ
points_up_to (Every words) word = word / words
points_up_to (At points) word = count_by (λ point. nat_le point word) points

-- an object's region is the number of cut points that are not above its chunk's first word
abbrev pub region_of : Cutting → Object → ℕ
region_of cut object = points_up_to cut object.first

abbrev pub region_at : Cutting → Memory → ℕ → ℕ
region_at cut memory index = region_of cut (object_at memory index)

-- the number of regions: the data words divided by the words of a region, rounded up; or one more
-- than the points
abbrev pub region_count : Cutting → Memory → ℕ
region_count (Every words) memory = (length (concat memory.chunks) + (words - 1)) / words
region_count (At points) memory = length points + 1

-- the number of objects in the regions before one
abbrev pub objects_before : Cutting → Memory → ℕ → ℕ
objects_before cut memory region =
    count_by (λ object. nat_lt (region_of cut object) region) (objects memory)

-- the total length in words of the marked objects of a region
abbrev pub live_words_in : Cutting → Memory → List Bool → ℕ → ℕ
live_words_in cut memory marks region =
    words_in (filter (λ object. region_of cut object == region) (live memory marks))

-- an object memory and its cut
pub record Regioning : Type 0 where
  pub cut : Cutting
  pub memory : Memory
