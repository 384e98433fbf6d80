-- The order of labels: what an object is not, if it has a label.
use Rattle.std.specs.Prelude.{◌≡◌, ◌<◌, ℕ, Bool, true, false, codes, Option, Some, is_some}
use Rattle.sqz_image.specs.Objects.{Memory, object_count, find}
use Rattle.sqz_trace.specs.declared.weak.Weak.{Weak}
use Rattle.sqz_histogram.specs.Names.{naming}
use Rattle.sqz_names.specs.declared.known.Known.{Known as Kind}
use Rattle.sqz_names.specs.declared.label.Label.{Label}
use Rattle.sqz_names.specs.declared.label.Label.TheVariants.{SpecialObjects, Known, Class, Metaclass, Method, Global}
use Rattle.sqz_names.specs.declared.label.Label.TheVariants.{ClassVariable, String, Symbol, Other}
use Rattle.sqz_names.specs.Structures.{IsClass, IsMethodOf, IsVariable}
use Rattle.sqz_names.specs.Known.{IsKnown}
use Rattle.sqz_names.specs.Labels.{IsLabel, IsText}
use Rattle.sqz_names.specs.Names.{IsOwner}

-- an object is not the special objects array
abbrev pub IsNotSpecial : Memory → ℕ → Type 0
IsNotSpecial memory object = find memory memory.special ≡ Some object → ⊥

-- an object is none of those that every image has
abbrev pub IsNotKnown : Memory → Weak → ℕ → Type 0
IsNotKnown memory weak object = (known : Kind) → IsKnown memory weak known object → ⊥

-- an object is no class that has a name
abbrev pub IsNoNamedClass : Memory → Weak → ℕ → Type 0
IsNoNamedClass memory weak object = IsClass memory weak object → is_some (naming memory weak object) ≡ true → ⊥

-- an object is no method of a class
abbrev pub IsNoMethod : Memory → Weak → ℕ → Type 0
IsNoMethod memory weak object =
    (class selector : ℕ) → class < object_count memory → IsClass memory weak class → IsMethodOf memory class selector object → ⊥

-- an object is no association of a variable
abbrev pub IsNoVariable : Memory → Weak → ℕ → Type 0
IsNoVariable memory weak object =
    (class : Option ℕ) (key : ℕ) → IsOwner memory weak class → IsVariable memory class object key → ⊥

-- an object is no string and no symbol
pub record IsNoText (memory : Memory) (weak : Weak) (object : ℕ) : Type 0 where
  pub not_string : IsText memory weak (codes "String") (codes "ByteString") object → ⊥
  pub not_symbol : IsText memory weak (codes "Symbol") (codes "ByteSymbol") object → ⊥

-- an object has the label of a string or a symbol, or it is neither and has no label
abbrev pub IsTextLabel : Memory → Weak → ℕ → Label → Type 0
IsTextLabel memory weak object String = Unit {0}
IsTextLabel memory weak object Symbol = Unit {0}
IsTextLabel memory weak object Other = IsNoText memory weak object
IsTextLabel memory weak object _ = ⊥

-- an object is nothing that has a name by its place in the image
pub record IsUnplaced (memory : Memory) (weak : Weak) (object : ℕ) : Type 0 where
  pub not_special : IsNotSpecial memory object
  pub not_known : IsNotKnown memory weak object
  pub no_class : IsNoNamedClass memory weak object
  pub no_method : IsNoMethod memory weak object
  pub no_variable : IsNoVariable memory weak object

-- an object is none of the things whose labels come before this one. So one without a label is none
-- of those that have one
abbrev pub IsFirst : Memory → Weak → ℕ → Label → Type 0
IsFirst memory weak object SpecialObjects = Unit {0}
IsFirst memory weak object (Known known) = IsNotSpecial memory object
IsFirst memory weak object Class = IsNotSpecial memory object × IsNotKnown memory weak object
IsFirst memory weak object Metaclass = IsNotSpecial memory object × IsNotKnown memory weak object
IsFirst memory weak object (Method class selector) =
    IsNotSpecial memory object × IsNotKnown memory weak object × IsNoNamedClass memory weak object
IsFirst memory weak object (Global key) =
    IsNotSpecial memory object × IsNotKnown memory weak object × IsNoNamedClass memory weak object × IsNoMethod memory weak object
IsFirst memory weak object (ClassVariable class key) =
    IsNotSpecial memory object × IsNotKnown memory weak object × IsNoNamedClass memory weak object × IsNoMethod memory weak object
IsFirst memory weak object String =
    IsNotSpecial memory object × IsNotKnown memory weak object × IsNoNamedClass memory weak object × IsNoMethod memory weak object
    × IsNoVariable memory weak object
IsFirst memory weak object Symbol =
    IsNotSpecial memory object × IsNotKnown memory weak object × IsNoNamedClass memory weak object × IsNoMethod memory weak object
    × IsNoVariable memory weak object
IsFirst memory weak object Other =
    IsNotSpecial memory object × IsNotKnown memory weak object × IsNoNamedClass memory weak object × IsNoMethod memory weak object
    × IsNoVariable memory weak object × IsNoText memory weak object

-- whether a label is that of a variable
abbrev pub is_of_variable : Label → Bool
is_of_variable (Global key) = true
is_of_variable (ClassVariable class key) = true
is_of_variable _ = false

-- an object has another label than that of a variable
pub record HasOtherLabel (memory : Memory) (weak : Weak) (object : ℕ) : Type 0 where
  pub label : Label
  pub is_label : IsLabel memory weak object label
  pub is_first : IsFirst memory weak object label
  pub is_other : is_of_variable label ≡ false
