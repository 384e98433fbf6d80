-- Objects with names. Two names are equal if the order of names says so.
use Rattle.std.specs.Prelude.{ℕ, Bool, true, false, List, [], ◌∷◌, map, Option, Some, None}
use Rattle.std.specs.List.{filter, filter_map}
use Rattle.std.specs.Ordering.{is_eq}
use Rattle.std.specs.declared.cmp.Ordering.{Ordering}
use Rattle.sqz_alike.specs.declared.matching.Pair.{Pair}
use Rattle.sqz_changes.specs.declared.named.Named.{Named}

-- the objects that stand under a name, in order
abbrev pub objects_of : {N : Type 0} → (N → N → Ordering) → N → List (Named N) → List ℕ
objects_of {N} cmp name listed =
    map (λ (named : Named N). named.object) (filter (λ (named : Named N). is_eq (cmp name named.name)) listed)

-- the only element of a list
abbrev pub only : List ℕ → Option ℕ
only [] = None
only (object ∷ []) = Some object
only (object ∷ _) = None

abbrev pub both : Option ℕ → Option ℕ → Option Pair
both (Some old) (Some new) = Some record { old = old; new = new }
both _ _ = None

-- the pair of a name that stands once in either list
abbrev pub named_pair : {N : Type 0} → (N → N → Ordering) → List (Named N) → List (Named N) → N → Option Pair
named_pair cmp old new name = both (only (objects_of cmp name old)) (only (objects_of cmp name new))

-- the pairs of all such names, in the order of the old list
abbrev pub named_pairs : {N : Type 0} → (N → N → Ordering) → List (Named N) → List (Named N) → List Pair
named_pairs {N} cmp old new = filter_map (λ (named : Named N). named_pair cmp old new named.name) old

abbrev pub is_none_of : List ℕ → Bool
is_none_of [] = true
is_none_of (object ∷ objects) = false

-- those whose names do not stand in the other list
abbrev pub only_in : {N : Type 0} → (N → N → Ordering) → List (Named N) → List (Named N) → List (Named N)
only_in {N} cmp one other = filter (λ (named : Named N). is_none_of (objects_of cmp named.name other)) one

-- what is kept of the objects of a name: whether there are any, and the only one
abbrev pub single : List ℕ → Option (Option ℕ)
single [] = None
single (object ∷ []) = Some (Some object)
single (object ∷ _) = Some None

-- the only one, as it is kept
abbrev pub known : Option (Option ℕ) → Option ℕ
known None = None
known (Some object) = object
