-- The methods and variables of an image, as they are listed.
use Rattle.std.specs.Prelude.{◌≡◌, ◌<◌, ◌≤◌, ℕ, Bool, true, List, ◌++◌, length, codes, All, Contains, Option, Some, IfSome}
use Rattle.sqz_image.specs.declared.slot.Slot.TheVariants.{Field}
use Rattle.sqz_image.specs.Objects.{Memory, object_count}
use Rattle.sqz_trace.specs.declared.weak.Weak.{Weak}
use Rattle.sqz_trace.specs.Graph.{is_marked}
use Rattle.sqz_trace.specs.Targets.{target}
use Rattle.sqz_names.specs.declared.method_name.MethodName.{MethodName}
use Rattle.sqz_names.specs.declared.variable_name.VariableName.{VariableName}
use Rattle.sqz_names.specs.declared.variable_name.Variable.{Variable}
use Rattle.sqz_names.specs.Fields.{associations_field, value_field}
use Rattle.sqz_names.specs.ByteTexts.{whole_name}
use Rattle.sqz_names.specs.Structures.{is_bytes, HasText, dictionary_of, IsClass, IsMethodOf, IsVariable}

-- a method of a class under a selector, all three of them objects
pub record IsMethodName (memory : Memory) (weak : Weak) (name : MethodName) : Type 0 where
  pub method_inside : name.method < object_count memory
  pub class_inside : name.class < object_count memory
  pub selector_inside : name.selector < object_count memory
  pub of_class : IsClass memory weak name.class
  pub is : IsMethodOf memory name.class name.selector name.method

-- a list has a method under a selector, as one of some class
pub record ListsMethod (names : List MethodName) (selector method : ℕ) : Type 0 where
  pub class : ℕ
  pub has : Contains names (record { method = method; class = class; selector = selector })

-- a list has all methods of a class
abbrev pub ListsMethodsOf : Memory → List MethodName → ℕ → Type 0
ListsMethodsOf memory names class =
    (selector method : ℕ) → IsMethodOf memory class selector method → ∥ ListsMethod names selector method ∥₁

-- methods of classes that pass a test
abbrev pub AreOfClasses : (ℕ → Bool) → List MethodName → Type 0
AreOfClasses test names = All (λ name. test name.class ≡ true) names

-- the class of a class variable; a global variable has none
abbrev pub IsOwner : Memory → Weak → Option ℕ → Type 0
IsOwner memory weak class = IfSome class (λ class. (class < object_count memory) × IsClass memory weak class)

-- the association of a variable, with its key
pub record IsVariableName (memory : Memory) (weak : Weak) (name : VariableName) : Type 0 where
  pub association_inside : name.association < object_count memory
  pub key_inside : name.key < object_count memory
  pub of_class : IsOwner memory weak name.class
  pub is : IsVariable memory name.class name.association name.key

-- a list has a variable, as one of some class or as a global one
pub record ListsVariable (names : List VariableName) (association key : ℕ) : Type 0 where
  pub class : Option ℕ
  pub has : Contains names (record { association = association; class = class; key = key })

-- a list has all class variables of a class, or all global variables
abbrev pub ListsVariablesOf : Memory → List VariableName → Option ℕ → Type 0
ListsVariablesOf memory names class =
    (association key : ℕ) → IsVariable memory class association key → ∥ ListsVariable names association key ∥₁

-- a list has the methods of all classes
abbrev pub ListsMethods : Memory → Weak → List MethodName → Type 0
ListsMethods memory weak names =
    (class : ℕ) → class < object_count memory → IsClass memory weak class → ListsMethodsOf memory names class

-- a list has the global variables, and the class variables of all classes
abbrev pub ListsVariables : Memory → Weak → List VariableName → Type 0
ListsVariables memory weak names = (class : Option ℕ) → IsOwner memory weak class → ListsVariablesOf memory names class

-- the class whose variables a dictionary has, or none if it has the global variables
pub record HasDictionary (memory : Memory) (weak : Weak) (dictionary : ℕ) : Type 0 where
  pub class : Option ℕ
  pub of_class : IsOwner memory weak class
  pub is : dictionary_of memory class ≡ Some dictionary

-- an element of an array
pub record IsElement (memory : Memory) (array element : ℕ) : Type 0 where
  pub place : ℕ
  pub is : target memory array (Field place) ≡ Some element

-- what holds the association of a variable, and its value: a dictionary of global variables or of
-- the class variables of a class, the array of the dictionary's associations, which has this one,
-- and the object that the association's value field points to
pub record IsHeld (memory : Memory) (weak : Weak) (association : ℕ) (variable : Variable) : Type 0 where
  pub dictionary : ∥ HasDictionary memory weak variable.dictionary ∥₁
  pub array : target memory variable.dictionary (Field associations_field) ≡ Some variable.array
  pub element : ∥ IsElement memory variable.array association ∥₁
  pub value : variable.value ≡ target memory association (Field value_field)

-- the indexes of what holds a variable, and of its value, are below the number of objects
pub record AreObjects (count : ℕ) (variable : Variable) : Type 0 where
  pub dictionary : variable.dictionary < count
  pub array : variable.array < count
  pub value : IfSome variable.value (λ value. value < count)

-- a class with this name
pub record IsClassNamed (memory : Memory) (weak : Weak) (name : List ℕ) (class : ℕ) : Type 0 where
  pub inside : class < object_count memory
  pub is_class : IsClass memory weak class
  pub named : whole_name memory weak class ≡ name

-- a byte object
pub record IsTextObject (memory : Memory) (object : ℕ) : Type 0 where
  pub inside : object < object_count memory
  pub is_text : is_bytes memory object ≡ true

-- a method of a class with a name under a selector
pub record IsMethodUnder (memory : Memory) (weak : Weak) (class_text selector_text : List ℕ) (method : ℕ) : Type 0 where
  pub class : ℕ
  pub selector : ℕ
  pub of_class : IsClassNamed memory weak class_text class
  pub spelled : HasText memory selector_text selector
  pub is : IsMethodOf memory class selector method

-- the objects of this set are the methods of the classes with a name under a selector
pub record AreMethodsUnder (memory : Memory) (weak : Weak) (class_text selector_text : List ℕ) (set : List Bool) : Type 0 where
  pub sound : (method : ℕ) → is_marked set method ≡ true → ∥ IsMethodUnder memory weak class_text selector_text method ∥₁
  pub complete : (method : ℕ) → IsMethodUnder memory weak class_text selector_text method → is_marked set method ≡ true

-- a method with this name: the name of its class, `>>` and its selector, where `>>` is the first one
pub record IsMethodNamed (memory : Memory) (weak : Weak) (name : List ℕ) (method : ℕ) : Type 0 where
  pub class_text : List ℕ
  pub selector_text : List ℕ
  pub split : name ≡ class_text ++ (codes ">>" ++ selector_text)
  pub is_first : (before after : List ℕ) → name ≡ before ++ (codes ">>" ++ after) → length class_text ≤ length before
  pub is : IsMethodUnder memory weak class_text selector_text method

-- the objects of this set are the methods with a name
pub record AreMethodsNamed (memory : Memory) (weak : Weak) (name : List ℕ) (set : List Bool) : Type 0 where
  pub sound : (method : ℕ) → is_marked set method ≡ true → ∥ IsMethodNamed memory weak name method ∥₁
  pub complete : (method : ℕ) → IsMethodNamed memory weak name method → is_marked set method ≡ true
