-- The walk through two images that finds which objects must correspond.
use Rattle.std.specs.Prelude.{◌≡◌, ◌<◌, ◌≤◌, ℕ, Bool, true, false, List, length, ◌++◌, Contains}
use Rattle.sqz_image.specs.declared.slot.Slot.TheVariants.{ClassWord, Field}
use Rattle.sqz_image.specs.Objects.{object_count}
use Rattle.sqz_trace.specs.declared.live_objects.Live.{Live}
use Rattle.sqz_trace.specs.Graph.{is_marked}
use Rattle.sqz_alike.specs.declared.matching.Matching.{Matching}
use Rattle.sqz_alike.specs.declared.matching.Pair.{Pair}
use Rattle.sqz_alike.specs.Matching.{IsMatching}
use Rattle.sqz_alike.specs.Alike.{SlotMatches, HasRoots, IsCorrespondence}
use Rattle.sqz_alike.specs.FirstDifference.{AreAmong, AreMatched, Never, walked}
use Rattle.sqz_alike.specs.Seen.{Seen, seen}

-- both objects are live
pub record IsLive (old new : Seen) (pair : Pair) : Type 0 where
  pub old_is : is_marked old.marks pair.old ≡ true
  pub new_is : is_marked new.marks pair.new ≡ true

abbrev pub AreLive : Seen → Seen → List Pair → Type 0
AreLive old new pairs = (pair : Pair) → Contains pairs pair → IsLive old new pair

-- a step from pairs to more pairs that finds whether something holds of them. It holds of no list
-- that has the former and lacks one of the latter
pub record Finds (Holds : List Pair → Type 0) (before after : List Pair) (found : Bool) : Type 0 where
  pub added : List Pair
  pub more : after ≡ before ++ added
  pub forced : (all : List Pair) → AreAmong before all → Holds all → AreAmong after all
  pub holds : found ≡ true → Holds after
  pub never : found ≡ false → Never Holds before

-- the class word and the first `count` fields of a pair match, as slots
pub record FirstSlotsMatch (old new : Seen) (pair : Pair) (count : ℕ) (pairs : List Pair) : Type 0 where
  pub class : SlotMatches old new pairs pair ClassWord
  pub fields : (index : ℕ) → index < count → SlotMatches old new pairs pair (Field index)

-- the pairs are of live objects, and every object has room for a partner
pub record IsWalk (old new : Live) (matching : Matching) : Type 0 where
  pub matched : IsMatching matching.pairs.items matching.new_of.items matching.old_of.items
  pub old_sized : length matching.new_of.items ≡ object_count old.graph.heap.now
  pub new_sized : length matching.old_of.items ≡ object_count new.graph.heap.now
  pub live : AreLive (seen old) (seen new) matching.pairs.items

-- the pairs that were found so far, from the special objects arrays on: those before a bound
-- match, and every correspondence has them all
pub record IsWalked (old new : Live) (bound : ℕ) (matching : Matching) : Type 0 where
  pub walk : IsWalk old new matching
  pub roots : HasRoots (seen old) (seen new) matching.pairs.items
  pub found : matching.pairs.items ≡ walked (seen old) (seen new) roots.roots bound
  pub within : bound ≤ length matching.pairs.items
  pub matched : AreMatched (seen old) (seen new) matching.pairs.items bound
  pub forced : (all : List Pair) → IsCorrespondence (seen old) (seen new) all → AreAmong matching.pairs.items all
