-- The objects that every image has.
use Rattle.std.specs.Prelude.{◌≡◌, ℕ, List, codes, Some}
use Rattle.sqz_image.specs.declared.slot.Slot.TheVariants.{Field}
use Rattle.sqz_image.specs.Objects.{Memory, find}
use Rattle.sqz_trace.specs.declared.weak.Weak.{Weak}
use Rattle.sqz_trace.specs.Targets.{target}
use Rattle.sqz_names.specs.declared.known.Known.{Known}
use Rattle.sqz_names.specs.declared.known.Known.TheVariants.{Nil, False, True, Smalltalk}
use Rattle.sqz_names.specs.Fields.{nil_field, false_field, true_field, globals_field}
use Rattle.sqz_names.specs.Structures.{class_name_of}

-- the field of the special objects array that points to the object
abbrev pub known_field : Known → ℕ
known_field Nil = nil_field
known_field False = false_field
known_field True = true_field
known_field Smalltalk = globals_field

-- the name of its class
abbrev pub known_class : Known → List ℕ
known_class Nil = codes "UndefinedObject"
known_class False = codes "False"
known_class True = codes "True"
known_class Smalltalk = codes "SystemDictionary"

-- the special objects array points to the object, and its class has the expected name
pub record IsKnown (memory : Memory) (weak : Weak) (known : Known) (object : ℕ) : Type 0 where
  pub special : ℕ
  pub is_special : find memory memory.special ≡ Some special
  pub is_held : target memory special (Field (known_field known)) ≡ Some object
  pub has_class : class_name_of memory weak object ≡ Some (known_class known)
