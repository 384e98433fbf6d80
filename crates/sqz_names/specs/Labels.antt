-- What a label states about its object.
use Rattle.std.specs.Prelude.{◌≡◌, ◌⊎◌, ◌<◌, ℕ, true, List, codes, Some}
use Rattle.sqz_image.specs.Objects.{Memory, find}
use Rattle.sqz_trace.specs.declared.weak.Weak.{Weak}
use Rattle.sqz_names.specs.declared.label.Label.{Label}
use Rattle.sqz_names.specs.declared.label.Label.TheVariants.{SpecialObjects, Known, Class, Metaclass, Method, Global}
use Rattle.sqz_names.specs.declared.label.Label.TheVariants.{ClassVariable, String, Symbol, Other}
use Rattle.sqz_names.specs.Structures.{is_bytes, has_own_name, class_name_of, IsClass, IsMetaclass, IsMethodOf, IsGlobal, IsClassVariable}
use Rattle.sqz_names.specs.Known.{IsKnown}

-- a byte object whose class has one of two names
pub record IsText (memory : Memory) (weak : Weak) (one other : List ℕ) (object : ℕ) : Type 0 where
  pub is_text : is_bytes memory object ≡ true
  pub has_class : (class_name_of memory weak object ≡ Some one) ⊎ (class_name_of memory weak object ≡ Some other)

-- what the image's structures state if an object has this label; nothing about any other object
abbrev pub IsLabel : Memory → Weak → ℕ → Label → Type 0
IsLabel memory weak object SpecialObjects = find memory memory.special ≡ Some object
IsLabel memory weak object (Known known) = IsKnown memory weak known object
IsLabel memory weak object Class = IsClass memory weak object × (has_own_name memory object ≡ true)
IsLabel memory weak object Metaclass = IsClass memory weak object × IsMetaclass memory object
IsLabel memory weak object (Method class selector) = IsClass memory weak class × IsMethodOf memory class selector object
IsLabel memory weak object (Global key) = IsGlobal memory object key
IsLabel memory weak object (ClassVariable class key) = IsClass memory weak class × IsClassVariable memory class object key
IsLabel memory weak object String = IsText memory weak (codes "String") (codes "ByteString") object
IsLabel memory weak object Symbol = IsText memory weak (codes "Symbol") (codes "ByteSymbol") object
IsLabel memory weak object Other = Unit {0}

-- the objects that a label names have indexes below the number of objects
abbrev pub IsInside : ℕ → Label → Type 0
IsInside count (Method class selector) = (class < count) × (selector < count)
IsInside count (Global key) = key < count
IsInside count (ClassVariable class key) = (class < count) × (key < count)
IsInside count _ = Unit {0}
