-- A turn of a worker that marks under a lock.
use Rattle.std.specs.Prelude.{◌≡◌, ◌⊎◌, ℕ, Bool, true, false, List, [], ◌∷◌, ◌++◌}
use Rattle.sqz_image.specs.Objects.{Memory}
use Rattle.sqz_trace.specs.declared.shades.Shade.{Shade}
use Rattle.sqz_trace.specs.declared.shades.Shade.TheVariants.{Grey}
use Rattle.sqz_trace.specs.declared.weak.Weak.{Weak}
use Rattle.sqz_trace.specs.Edges.{HasEdge}
use Rattle.sqz_trace.specs.Shades.{shade_at, AreFirst}
use Rattle.sqz_trace.specs.Greying.{Blackens, IsListed}

-- what is under the lock: one shade per object, and a list of objects
pub record Progress : Type 0 where
  pub shades : List Shade
  pub list : List ℕ

-- the special objects array is grey and the only object in the list, and every other object is
-- white
pub record IsBegun (memory : Memory) (progress : Progress) : Type 0 where
  pub first : AreFirst memory progress.shades
  pub alone : progress.list ≡ first.start ∷ []

-- the object is grey: it becomes black, and its white targets become grey and join the list
pub record IsLookedAt (memory : Memory) (weak : Weak) (object : ℕ) (old new : List Shade) (list longer : List ℕ) : Type 0 where
  pub grey : shade_at old object ≡ Grey
  pub blackened : Blackens (HasEdge memory weak object) object old new
  pub listed : IsListed old new list longer

-- the object is not grey, and nothing changes
pub record IsPassedOver (object : ℕ) (old new : List Shade) (list longer : List ℕ) : Type 0 where
  pub not_grey : shade_at old object ≡ Grey → ⊥
  pub shades : new ≡ old
  pub list_is : longer ≡ list

-- an object is taken from the end of the list, and scanned if it is grey
pub record IsTaken (memory : Memory) (weak : Weak) (old new : Progress) : Type 0 where
  pub object : ℕ
  pub rest : List ℕ
  pub last : old.list ≡ rest ++ object ∷ []
  pub done : IsLookedAt memory weak object old.shades new.shades rest new.list ⊎ IsPassedOver object old.shades new.shades rest new.list

-- one object is taken, or the list is empty and nothing changes
abbrev pub IsTurn : Memory → Weak → Progress → Progress → Bool → Type 0
IsTurn memory weak old new true = IsTaken memory weak old new
IsTurn memory weak old new false = (old.list ≡ []) × (new ≡ old)
