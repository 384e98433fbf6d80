-- Objects near a word, bit by bit.
-- Serves `only_near`.
use Rattle.std.proofs.Common.{◌≡◌, ℕ, suc, ◌<◌, ◌≤◌, ◌-◌, ◌+◌, Bool, true, false, List, [], ◌∷◌, ◌++◌, Option, Some, None, refl, ap}
use Rattle.std.proofs.Common.{◌∙◌, arith}
use Rattle.std.specs.Prelude.{is_some}
use Rattle.std.specs.List.{filter_map, range_with_len}
use Rattle.sqz_image.specs.Objects.{Memory}
use Rattle.sqz_damage.specs.Near.{object_near, only}

-- an object, if there is one, as a list
abbrev pub listed : Option ℕ → List ℕ
listed None = []
listed (Some object) = object ∷ []

-- the objects for the bits from one on
abbrev pub objects_from : Memory → Bool → ℕ → ℕ → List ℕ
objects_from memory classes word bit = filter_map (object_near memory classes word) (range_with_len bit (32 - bit))

bits-left : (bit : ℕ) → bit < 32 → 32 - bit ≡ suc (32 - (bit + 1))
bits-left bit lt = omega (arith, lt)

no-bits : (bit : ℕ) → 32 ≤ bit → 32 - bit ≡ 0
no-bits bit le = omega (arith, le)

module _ (memory : Memory) (classes : Bool) (word bit : ℕ) where
  -- the objects for one bit and for those after it
  from-next : bit < 32 → objects_from memory classes word bit
      ≡ filter_map (object_near memory classes word) (bit ∷ range_with_len (bit + 1) (32 - (bit + 1)))
  from-next lt = ap (λ count. filter_map (object_near memory classes word) (range_with_len bit count)) (bits-left bit lt)

  -- a bit that gives no object
  pub only-none : (found : Option ℕ) → bit < 32 → object_near memory classes word bit ≡ None
      → only (listed found ++ objects_from memory classes word bit) ≡ only (listed found ++ objects_from memory classes word (bit + 1))
  only-none found lt none = ap (λ rest. only (listed found ++ rest)) (from-next lt ∙ rw none refl)

  from-some : (object : ℕ) → bit < 32 → object_near memory classes word bit ≡ Some object
      → objects_from memory classes word bit ≡ object ∷ objects_from memory classes word (bit + 1)
  from-some object lt some = from-next lt ∙ rw some refl

  -- the first object
  pub only-first : (found : Option ℕ) (object : ℕ) → bit < 32 → is_some found ≡ false → object_near memory classes word bit ≡ Some object
      → only (listed found ++ objects_from memory classes word bit) ≡ only (listed (Some object) ++ objects_from memory classes word (bit + 1))
  only-first None object lt isnt some = ap only (from-some object lt some)
  only-first (Some other) object lt isnt some = absurd cc

  -- the second one
  pub only-second : (found : Option ℕ) (object : ℕ) → bit < 32 → is_some found ≡ true → object_near memory classes word bit ≡ Some object
      → only (listed found ++ objects_from memory classes word bit) ≡ None
  only-second None object lt is some = absurd cc
  only-second (Some other) object lt is some = ap (λ rest. only (other ∷ rest)) (from-some object lt some)

  -- no bit is left
  pub only-last : (found : Option ℕ) → 32 ≤ bit → only (listed found ++ objects_from memory classes word bit) ≡ found
  only-last found le =
      ap (λ count. only (listed found ++ filter_map (object_near memory classes word) (range_with_len bit count))) (no-bits bit le)
      ∙ only-listed found
    where
      only-listed : (found : Option ℕ) → only (listed found ++ []) ≡ found
      only-listed None = refl
      only-listed (Some object) = refl
