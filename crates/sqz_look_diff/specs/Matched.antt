-- The partners of the objects of two images, and what the objects retain.
use Rattle.std.specs.Prelude.{ℕ, Bool, List}
use Rattle.sqz_image.specs.Objects.{object_count}
use Rattle.sqz_trace.specs.declared.live_objects.Live.{Live}
use Rattle.sqz_alike.specs.declared.matching.Pair.{Pair}
use Rattle.sqz_alike.specs.Alike.{IsOneToOne}
use Rattle.sqz_alike.specs.Partners.{AreFound}
use Rattle.sqz_alike.specs.Seen.{seen}
use Rattle.sqz_dominators.specs.declared.shares.SharedDominators.{SharedDominators}
use Rattle.sqz_dominators.specs.Retained.{AreDominators}
use Rattle.sqz_dominators.specs.Shares.{AreShares}
use Rattle.sqz_alike.specs.NewObjects.{AreNew}
use Rattle.sqz_look_diff.specs.declared.matched.Matched.{Matched}

-- the pairs of a walk, from some objects with equal names and with some numbers for objects
pub record ArePartners (old new : Live) (pairs : List Pair) : Type 0 where
  pub old_kinds : List ℕ
  pub new_kinds : List ℕ
  pub named : List Pair
  pub found : AreFound record { old = seen old; new = seen new; old_kinds = old_kinds; new_kinds = new_kinds } named pairs
  pub once : IsOneToOne pairs

-- the dominators of an image, and what they retain of its live objects that are in no pair
pub record AreSharesOfNew (new : Live) (pairs : List Pair) (shared : SharedDominators) : Type 0 where
  pub dominators : AreDominators new.graph.heap.now new.graph.weak shared.dominators
  pub marks : List Bool
  pub are_new : AreNew (object_count new.graph.heap.now) new.marks pairs marks
  pub shares : AreShares new.graph.heap.now new.graph.weak marks shared.shares.items

-- the partners of the objects, and what the objects of each image retain
pub record AreMatched (old new : Live) (matched : Matched) : Type 0 where
  pub partners : ArePartners old new matched.partners.pairs.items
  pub dominators : AreDominators old.graph.heap.now old.graph.weak matched.old
  pub shares : AreSharesOfNew new matched.partners.pairs.items matched.new
