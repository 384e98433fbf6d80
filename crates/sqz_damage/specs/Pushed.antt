-- The patches of some slots, appended to others. Private to the crate's functions.
use Rattle.std.specs.Prelude.{◌≡◌, ℕ, ◌++◌, List, [], map, Option, None, unwrap_or, Contains}
use Rattle.sqz_image.specs.declared.slot.Slot.{Slot}
use Rattle.sqz_image.specs.Objects.{Object}
use Rattle.sqz_damage.specs.declared.dangling.patch.Patch.{Patch}
use Rattle.sqz_damage.specs.declared.dangling.nil_error.NilError.{NilError}
use Rattle.sqz_damage.specs.declared.dangling.nil_error.NilError.TheVariants.{OutOfMemory, NoNil, NoSpecialObjects}
use Rattle.sqz_damage.specs.Patches.{slot_patch}

-- the address of nil; without a nil no slot dangles, and the number does not matter
abbrev pub nil_or_zero : Option ℕ → ℕ
nil_or_zero nil = unwrap_or nil 0

-- the patches of these slots of an object are appended to the old ones; without nil there are none
pub record ArePushed (nil : Option ℕ) (object : Object) (slots : List Slot) (old new : List Patch) : Type 0 where
  pub pushed : new ≡ old ++ map (slot_patch (nil_or_zero nil) object) slots
  pub needed : nil ≡ None → slots ≡ []

-- why they do not: out of memory, or there is no nil
abbrev pub IsPushError : Option ℕ → List Slot → NilError → Type 0
IsPushError nil slots OutOfMemory = Unit {0}
IsPushError nil slots NoNil = (nil ≡ None) × ((slot : Slot) × Contains slots slot)
IsPushError nil slots NoSpecialObjects = ⊥

-- why a patch of one slot that dangles does not stand there
abbrev pub IsMissing : Option ℕ → NilError → Type 0
IsMissing nil OutOfMemory = Unit {0}
IsMissing nil NoNil = nil ≡ None
IsMissing nil NoSpecialObjects = ⊥
