-- Pairs of objects that are kept with the partner of each object.
use Rattle.std.specs.Prelude.{◌≡◌, ◌≢◌, ◌⊎◌, ◌&&◌, ◌||◌, ◌==◌, ◌+◌, ℕ, suc, not, Bool, true, false, if◌then◌else◌}
use Rattle.std.specs.Prelude.{List, [], ◌∷◌, length, ◌++◌, Option, Some, None}
use Rattle.std.specs.Prelude.{Contains, slice_index_or}
use Rattle.sqz_alike.specs.declared.matching.Pair.{Pair}

-- the partner of an object, if it has one
abbrev pub partner_in : List (Option ℕ) → ℕ → Option ℕ
partner_in partners object = slice_index_or partners object None

-- the number of objects without a partner
abbrev pub single_count : List (Option ℕ) → ℕ
single_count [] = 0
single_count (None ∷ partners) = suc (single_count partners)
single_count (Some partner ∷ partners) = single_count partners

-- whether an object is in one of these pairs, on either side
abbrev pub has_old : List Pair → ℕ → Bool
has_old [] object = false
has_old (pair ∷ pairs) object = (pair.old == object) || has_old pairs object

abbrev pub has_new : List Pair → ℕ → Bool
has_new [] object = false
has_new (pair ∷ pairs) object = (pair.new == object) || has_new pairs object

-- whether neither object is in one of these pairs
abbrev pub are_free : List Pair → Pair → Bool
are_free pairs pair = not (has_old pairs pair.old) && not (has_new pairs pair.new)

-- the pairs after two objects became one more, if neither was in a pair
abbrev pub with_pair : List Pair → Pair → List Pair
with_pair pairs pair = if are_free pairs pair then pairs ++ pair ∷ [] else pairs

-- the pairs are those of the partners, on either side
pub record IsMatching (pairs : List Pair) (new_of old_of : List (Option ℕ)) : Type 0 where
  pub old_is : (pair : Pair) → Contains pairs pair → partner_in new_of pair.old ≡ Some pair.new
  pub new_is : (pair : Pair) → Contains pairs pair → partner_in old_of pair.new ≡ Some pair.old
  pub by_old : (old new : ℕ) → partner_in new_of old ≡ Some new → Contains pairs record { old = old; new = new }
  pub by_new : (old new : ℕ) → partner_in old_of new ≡ Some old → Contains pairs record { old = old; new = new }
  pub few : length pairs + single_count new_of ≡ length new_of

-- one of the objects is in another pair
pub record Clashes (pairs : List Pair) (pair : Pair) : Type 0 where
  pub other : Pair
  pub paired : Contains pairs other
  pub is_other : other ≢ pair
  pub shared : (other.old ≡ pair.old) ⊎ (other.new ≡ pair.new)

-- two objects became a pair, or were one, unless one of them is in another pair
pub record Joins (pair : Pair) (old new : List Pair) (joined : Bool) : Type 0 where
  pub added : List Pair
  pub more : new ≡ old ++ added
  pub only : (other : Pair) → Contains added other → other ≡ pair
  pub paired : joined ≡ true → Contains new pair
  pub clashes : joined ≡ false → Clashes old pair
