-- The marked elements of a list, in order. With the marks of the reachable objects: the live
-- objects.
use Rattle.std.specs.Prelude.{ℕ, Bool, true, false, List, [], ◌∷◌, take}
use Rattle.sqz_image.specs.Objects.{Memory, Object, objects, words_in}

abbrev pub marked : {X : Type 0} → List Bool → List X → List X
marked (true ∷ marks) (x ∷ xs) = x ∷ marked marks xs
marked (false ∷ marks) (x ∷ xs) = marked marks xs
marked _ _ = []

abbrev pub live : Memory → List Bool → List Object
live memory marks = marked marks (objects memory)

-- the total length in words of the marked objects below an index
abbrev pub live_words_below : Memory → List Bool → ℕ → ℕ
live_words_below memory marks index = words_in (marked (take index marks) (take index (objects memory)))

-- the total length in words of all marked objects
abbrev pub live_words : Memory → List Bool → ℕ
live_words memory marks = words_in (live memory marks)
