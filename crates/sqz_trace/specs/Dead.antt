-- The elements of a list that are not marked, in order. With the marks of the reachable objects:
-- the garbage.
use Rattle.std.specs.Prelude.{◌≡◌, ◌*◌, ◌<◌, ◌&&◌, ℕ, Bool, true, false, not, List, [], ◌∷◌, length}
use Rattle.sqz_image.specs.Objects.{Memory, Object, objects, words_in}
use Rattle.sqz_trace.specs.Graph.{is_marked}

-- an element without a mark is not marked
abbrev pub unmarked : {X : Type 0} → List Bool → List X → List X
unmarked [] xs = xs
unmarked (mark ∷ marks) [] = []
unmarked (true ∷ marks) (x ∷ xs) = unmarked marks xs
unmarked (false ∷ marks) (x ∷ xs) = x ∷ unmarked marks xs

abbrev pub dead : Memory → List Bool → List Object
dead memory marks = unmarked marks (objects memory)

-- the bytes of the chunks of objects, header words included
abbrev pub bytes_in : List Object → ℕ
bytes_in objects = 4 * words_in objects

-- one mark for each of `count` objects: those that are not marked in `marks`
pub record IsComplement (count : ℕ) (marks others : List Bool) : Type 0 where
  pub sized : length others ≡ count
  pub each : (index : ℕ) → index < count → is_marked others index ≡ not (is_marked marks index)

-- one mark for each of `count` objects: those that are marked in `marks` and not in `others`
pub record IsDifference (count : ℕ) (marks others rest : List Bool) : Type 0 where
  pub sized : length rest ≡ count
  pub each : (index : ℕ) → index < count → is_marked rest index ≡ (is_marked marks index && not (is_marked others index))
