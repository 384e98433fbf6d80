-- The first objects of two images that differ, in the order of a walk from the special objects arrays.
use Rattle.std.specs.Prelude.{◌≡◌, ◌<◌, ℕ, List, [], ◌∷◌, length, Contains}
use Rattle.sqz_alike.specs.declared.alikeness.Alikeness.{Alikeness}
use Rattle.sqz_alike.specs.declared.alikeness.Alikeness.TheVariants.{Alike, Differ}
use Rattle.sqz_alike.specs.declared.matching.Pair.{Pair}
use Rattle.sqz_alike.specs.Alike.{IsOneToOne, ObjectsMatch}
use Rattle.sqz_alike.specs.Partners.{AreRoots, SeenSides, follow_first, pair_at}
use Rattle.sqz_alike.specs.Seen.{Seen}

-- two images in which any two live objects can be partners
abbrev pub any_kind : Seen → Seen → SeenSides
any_kind old new = record { old = old; new = new; old_kinds = []; new_kinds = [] }

-- the pairs that a walk from the roots has found when the first `count` of them were followed
abbrev pub walked : Seen → Seen → Pair → ℕ → List Pair
walked old new roots count = follow_first (any_kind old new) (roots ∷ []) count

-- the objects of the first `count` pairs match
abbrev pub AreMatched : Seen → Seen → List Pair → ℕ → Type 0
AreMatched old new pairs count = (index : ℕ) → index < count → index < length pairs
    → ObjectsMatch old new pairs (pair_at pairs index)

-- every pair of a list is a pair of another
abbrev pub AreAmong : List Pair → List Pair → Type 0
AreAmong pairs others = (pair : Pair) → Contains pairs pair → Contains others pair

-- something holds of no one-to-one list that has these pairs
abbrev pub Never : (List Pair → Type 0) → List Pair → Type 0
Never Holds pairs = (all : List Pair) → IsOneToOne all → AreAmong pairs all → Holds all → ⊥

-- two objects differ, and those that a walk from the roots finds before them match: whatever other
-- objects are pairs, the two do not match
pub record AreFirstToDiffer (old new : Seen) (pair : Pair) : Type 0 where
  pub roots : Pair
  pub are_roots : AreRoots old new roots
  pub place : ℕ
  pub inside : place < length (walked old new roots place)
  pub at : pair_at (walked old new roots place) place ≡ pair
  pub matched : AreMatched old new (walked old new roots place) place
  pub differ : Never (λ pairs. ObjectsMatch old new pairs pair) (walked old new roots place)

-- if two images differ, these are the first objects that do
abbrev pub IsFirst : Seen → Seen → Alikeness → Type 0
IsFirst old new Alike = Unit {0}
IsFirst old new (Differ pair) = AreFirstToDiffer old new pair
