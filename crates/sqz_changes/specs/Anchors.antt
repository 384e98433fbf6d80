-- The objects of the old image whose pairs own themselves.
use Rattle.std.specs.Prelude.{◌≡◌, ℕ, Bool, false, List, slice_index_or, Option, Some, None}
use Rattle.sqz_alike.specs.declared.matching.Pair.{Pair}
use Rattle.sqz_alike.specs.Matching.{partner_in}
use Rattle.sqz_changes.specs.Compared.{is_pair}

-- whether an object is in one of these pairs with its partner
abbrev pub is_with : List Pair → ℕ → Option ℕ → Bool
is_with pairs object None = false
is_with pairs object (Some partner) = is_pair pairs object partner

-- a flag for each object: whether it is in one of these pairs with its partner
abbrev pub AreAnchored : List (Option ℕ) → List Pair → List Bool → Type 0
AreAnchored new_of pairs anchored =
    (object : ℕ) → slice_index_or anchored object false ≡ is_with pairs object (partner_in new_of object)
