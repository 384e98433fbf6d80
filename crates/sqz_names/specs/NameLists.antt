-- Lists of methods and variables while they are collected.
use Rattle.std.specs.Prelude.{◌≡◌, ℕ, Bool, true, List}
use Rattle.sqz_image.specs.Objects.{Memory}
use Rattle.sqz_trace.specs.Graph.{is_marked}
use Rattle.sqz_names.specs.declared.method_name.MethodName.{MethodName}
use Rattle.sqz_names.specs.declared.variable_name.VariableName.{VariableName}
use Rattle.sqz_names.specs.Names.{ListsMethod, ListsVariable}
use Rattle.sqz_names.specs.Structures.{IsMethodIn, IsVariableAmong}

-- a list has all methods of a method dictionary
abbrev pub ListsDictionary : Memory → ℕ → List MethodName → Type 0
ListsDictionary memory dictionary names =
    (selector method : ℕ) → IsMethodIn memory dictionary selector method → ∥ ListsMethod names selector method ∥₁

-- a list has all methods of a set of method dictionaries
abbrev pub ListsDictionaries : Memory → List Bool → List MethodName → Type 0
ListsDictionaries memory dictionaries names =
    (dictionary : ℕ) → is_marked dictionaries dictionary ≡ true → ListsDictionary memory dictionary names

-- a list has all variables of an array of associations
abbrev pub ListsArray : Memory → ℕ → List VariableName → Type 0
ListsArray memory array names =
    (association key : ℕ) → IsVariableAmong memory array association key → ∥ ListsVariable names association key ∥₁

-- a list has all variables of a set of arrays of associations
abbrev pub ListsArrays : Memory → List Bool → List VariableName → Type 0
ListsArrays memory arrays names = (array : ℕ) → is_marked arrays array ≡ true → ListsArray memory array names
