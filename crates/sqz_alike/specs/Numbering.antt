-- Objects that are found, kept with their places.
use Rattle.std.specs.Prelude.{◌≡◌, ℕ, ◌<◌, ◌^◌, nat_eq, List, length, All, Option, None, position, slice_index_or}
use Rattle.std.specs.List.{IsDistinct}
use Rattle.sqz_image.specs.Objects.{object_count}
use Rattle.sqz_trace.specs.declared.live_objects.Live.{Live}
use Rattle.sqz_alike.specs.declared.hashing.walk.Walk.{Walk}

-- the objects are some of the first `count` ones, and each is found once
pub record AreSomeOf (count : ℕ) (found : List ℕ) : Type 0 where
  pub inside : All (λ object. object < count) found
  pub distinct : IsDistinct nat_eq found

-- each object has its place among those found, if it is one of them
pub record IsNumbering (found : List ℕ) (places : List (Option ℕ)) : Type 0 where
  pub once : AreSomeOf (length places) found
  pub placed : (object : ℕ) → object < length places → slice_index_or places object None ≡ position (nat_eq object) found
  pub few : length places < 2 ^ 32

-- each object that a walk has found has its place, and every object has room for one
pub record NumbersFound (live : Live) (walk : Walk) : Type 0 where
  pub numbering : IsNumbering walk.found.items walk.places.items
  pub sized : length walk.places.items ≡ object_count live.graph.heap.now
