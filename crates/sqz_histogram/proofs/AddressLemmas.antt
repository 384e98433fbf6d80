-- Objects with higher indexes have higher addresses.
-- Serves `HistogramLemmas`; `CensusLemmas` of `sqz_census`.
use Rattle.std.proofs.Common.{ℕ, zero, suc, ◌+◌, ◌*◌, ◌<◌, ◌≤◌, Bool, true, false, cond, List, [], ◌∷◌, ◌++◌, map}
use Rattle.std.proofs.Common.{length, get_or, arith}
use Rattle.std.specs.List.{AllByRecursion}
use Rattle.sqz_object.specs.Chunk.{IsChunk, is_object, before}
use Rattle.sqz_image.specs.Objects.{Memory, Object, objects_of, objects, moved_on, address_in, object_count, address_of}
use Rattle.sqz_image.specs.Objects.{chunk_words}
use Rattle.sqz_image.proofs.ObjectLemmas.{objects_keep, All_at, before-chunk}

abbrev no_object : Object
no_object = record { first = 0; chunk = [] }

-- the first address is no lower than this, and each later one is above the one before
abbrev Rise : ℕ → ℕ → List Object → Type 0
Rise base low [] = Unit {0}
Rise base low (object ∷ objects) = (low ≤ address_in base object) × Rise base (suc (address_in base object)) objects

Rise-lower : (base low high : ℕ) (objects : List Object) → low ≤ high → Rise base high objects → Rise base low objects
Rise-lower base low high [] le rise = tt
Rise-lower base low high (object ∷ objects) le rise = (omega (arith, rise.0), rise.1)

-- addresses rise from a later base as from this one, after the words between them
Rise-moved_on : (base count low : ℕ) (objects : List Object) → Rise (base + 4 * count) low objects
    → Rise base low (map (moved_on count) objects)
Rise-moved_on base count low [] rise = tt
Rise-moved_on base count low (object ∷ objects) rise =
    let others = Rise-moved_on base count (suc (address_in (base + 4 * count) object)) objects rise.1 in
    (omega (arith, rise.0), Rise-lower base _ _ (map (moved_on count) objects) (omega arith) others)

-- the addresses of the objects of chunks rise
Rise-objects : (base : ℕ) (chunks : List (List ℕ)) → AllByRecursion IsChunk chunks → Rise base base (objects_of chunks)
Rise-objects base [] each = tt
Rise-objects base (chunk ∷ chunks) each =
    by_test (is_object chunk)
    (Rise-moved_on base (length chunk) (base + 4 * length chunk) (objects_of chunks)
    (Rise-objects (base + 4 * length chunk) chunks each.1))
  where
    others : List Object
    others = map (moved_on (length chunk)) (objects_of chunks)

    by_test : (test : Bool) → Rise base (base + 4 * length chunk) others
        → Rise base base ((cond test (record { first = 0; chunk = chunk } ∷ []) []) ++ others)
    by_test true rise =
        let headed = before-chunk chunk each.0 in
        (omega arith, Rise-lower base _ (base + 4 * length chunk) others (omega (arith, headed)) rise)
    by_test false rise = Rise-lower base base (base + 4 * length chunk) others (omega arith) rise

-- none of them is below the bound
Rise-least : (base low : ℕ) (objects : List Object) (i : ℕ) → Rise base low objects → i < length objects
    → low ≤ address_in base (get_or objects i no_object)
Rise-least base low [] i rise lt = absurd (omega arith)
Rise-least base low (object ∷ objects) zero rise lt = rise.0
Rise-least base low (object ∷ objects) (suc i) rise lt =
    let least = Rise-least base (suc (address_in base object)) objects i rise.1 (omega arith) in
    omega (arith, rise.0, least)

-- and a later one is higher
Rise-later : (base low : ℕ) (objects : List Object) (i j : ℕ) → Rise base low objects → i < j → j < length objects
    → address_in base (get_or objects i no_object) < address_in base (get_or objects j no_object)
Rise-later base low [] i j rise lt inside = absurd (omega arith)
Rise-later base low (object ∷ objects) i zero rise lt inside = absurd (omega arith)
Rise-later base low (object ∷ objects) zero (suc j) rise lt inside =
    let least = Rise-least base (suc (address_in base object)) objects j rise.1 (omega arith) in
    omega (arith, least)
Rise-later base low (object ∷ objects) (suc i) (suc j) rise lt inside =
    Rise-later base (suc (address_in base object)) objects i j rise.1 (omega arith) (omega arith)

module _ (memory : Memory) (chunks : AllByRecursion IsChunk memory.chunks) where
  -- a later object has a higher address
  pub address_of-rises : (one other : ℕ) → one < other → other < object_count memory
      → address_of memory one < address_of memory other
  address_of-rises one other lt inside =
      Rise-later memory.base memory.base (objects memory) one other (Rise-objects memory.base memory.chunks chunks) lt inside

  -- the chunk of an object has its base header
  pub before-chunk_words : (index : ℕ) → index < object_count memory
      → before (chunk_words memory index) < length (chunk_words memory index)
  before-chunk_words index inside =
      before-chunk (chunk_words memory index)
      (All_at (λ (object : Object). IsChunk object.chunk) (objects memory) index no_object inside
      (objects_keep IsChunk memory.chunks chunks))
