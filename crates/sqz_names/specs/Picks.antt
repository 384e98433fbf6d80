-- Lists that are picked from a list.
use Rattle.std.specs.Prelude.{◌≡◌, ◌⊎◌, ℕ, List, [], ◌∷◌}
use Rattle.std.specs.List.{range_with_len}
use Rattle.sqz_image.specs.Objects.{Memory, object_count}

-- of a list of items those about which a fact is true, in their order
abbrev pub ArePicked : {X : Type 0} → (X → Type 0) → List X → List X → Type 0
ArePicked {X} P [] picked = picked ≡ []
ArePicked {X} P (x ∷ xs) picked =
    (P x × ((rest : List X) × (picked ≡ x ∷ rest) × ArePicked P xs rest)) ⊎ ((P x → ⊥) × ArePicked P xs picked)

-- the objects of an image about which a fact is true, by index
abbrev pub AreObjectsThat : Memory → (ℕ → Type 0) → List ℕ → Type 0
AreObjectsThat memory P found = ArePicked P (range_with_len 0 (object_count memory)) found
