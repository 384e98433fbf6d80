-- How a heap keeps where the chunks of objects begin.
use Rattle.std.specs.Prelude.{◌≡◌, ℕ, ◌+◌, ◌%◌, ◌^◌, ◌<◌, List, [], map, length, slice_index_or}
use Rattle.sqz_image.specs.declared.starts.Start.{Start}
use Rattle.sqz_image.specs.Objects.{Object}

-- the index of the first word of the chunk
abbrev pub first_of : Start → ℕ
first_of start = start.index % 2 ^ 30

-- the next object's chunk follows directly
abbrev pub IsFollowed : Start → Type 0
IsFollowed start = start.index < 2 ^ 30

abbrev pub start_at : List Start → ℕ → Start
start_at starts index = slice_index_or starts index record { index = 0 }

abbrev pub object_in : List Object → ℕ → Object
object_in objects index = slice_index_or objects index record { first = 0; chunk = [] }

-- the index of the first word after an object's chunk
abbrev pub end_of : Object → ℕ
end_of object = object.first + length object.chunk

-- the next object begins where this one ends
pub record IsNextAfter (objects : List Object) (index : ℕ) : Type 0 where
  pub inside : index + 1 < length objects
  pub adjacent : (object_in objects (index + 1)).first ≡ end_of (object_in objects index)

-- one start per object: where its chunk begins, and whether the next object's chunk follows
-- directly
pub record AreStarts (objects : List Object) (starts : List Start) : Type 0 where
  pub firsts : map first_of starts ≡ map (λ object. object.first) objects
  pub followed : (index : ℕ) → index < length objects → IsFollowed (start_at starts index) → IsNextAfter objects index
