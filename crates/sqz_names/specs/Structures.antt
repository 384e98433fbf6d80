-- What the structures of an image state: its classes, methods and variables.
use Rattle.std.specs.Prelude.{◌≡◌, ◌⊎◌, ◌+◌, ◌<◌, ℕ, Bool, true, false, List, Option, Some, None}
use Rattle.std.specs.Prelude.{option_map, option_and_then}
use Rattle.sqz_object.specs.declared.layout.Layout.{Layout}
use Rattle.sqz_object.specs.declared.layout.Layout.TheVariants.{Bytes, Method}
use Rattle.sqz_object.specs.Chunk.{fields}
use Rattle.sqz_object.specs.Layout.{layout}
use Rattle.sqz_image.specs.declared.slot.Slot.TheVariants.{Field}
use Rattle.sqz_image.specs.Objects.{Memory, object_count, chunk_words, find}
use Rattle.sqz_trace.specs.declared.weak.Weak.{Weak}
use Rattle.sqz_trace.specs.Graph.{IsReachable, is_marked}
use Rattle.sqz_trace.specs.Reachability.{graph_from}
use Rattle.sqz_trace.specs.Strong.{class_of}
use Rattle.sqz_trace.specs.Targets.{target}
use Rattle.sqz_histogram.specs.Bytes.{bytes_in, is_byte_layout}
use Rattle.sqz_histogram.specs.Names.{class_name}
use Rattle.sqz_names.specs.Fields.{globals_field, method_dictionary_field, instance_field, name_field, class_variables_field}
use Rattle.sqz_names.specs.Fields.{associations_field, methods_field, first_selector_field, key_field}

-- ---- objects

-- whether an object with this layout is a compiled method
abbrev pub is_method_layout : Layout → Bool
is_method_layout Method = true
is_method_layout _ = false

-- whether an object is a byte object, as strings, symbols and selectors are
abbrev pub is_bytes : Memory → ℕ → Bool
is_bytes memory object = is_byte_layout (layout (chunk_words memory object))

-- whether an object is a compiled method
abbrev pub is_method : Memory → ℕ → Bool
is_method memory object = is_method_layout (layout (chunk_words memory object))

-- a byte object with these bytes
pub record HasText (memory : Memory) (text : List ℕ) (object : ℕ) : Type 0 where
  pub unused : ℕ
  pub is_text : layout (chunk_words memory object) ≡ Bytes unused
  pub bytes : bytes_in memory.order unused (fields (chunk_words memory object)) ≡ text

-- a path of strong slots leads from the special objects array to the object
pub record IsLive (memory : Memory) (weak : Weak) (object : ℕ) : Type 0 where
  pub start : ℕ
  pub is_special : find memory memory.special ≡ Some start
  pub reached : IsReachable (graph_from start memory weak) object

-- ---- classes

-- the name of an object's class as a class histogram prints it; None if the object has no class
abbrev pub class_name_of : Memory → Weak → ℕ → Option (List ℕ)
class_name_of memory weak object = option_map (class_name memory weak) (class_of memory weak (chunk_words memory object))

-- whether there is a byte object
abbrev pub has_bytes : Memory → Option ℕ → Bool
has_bytes memory None = false
has_bytes memory (Some object) = is_bytes memory object

-- whether an object has a name of its own: its name field points to a byte object
abbrev pub has_own_name : Memory → ℕ → Bool
has_own_name memory object = has_bytes memory (target memory object (Field name_field))

-- the class of a live object
pub record IsClassOfLive (memory : Memory) (weak : Weak) (class : ℕ) : Type 0 where
  pub instance : ℕ
  pub live : IsLive memory weak instance
  pub is_class : class_of memory weak (chunk_words memory instance) ≡ Some class

-- the only instance of this metaclass, with a name of its own
pub record IsNamedInstanceOf (memory : Memory) (weak : Weak) (metaclass class : ℕ) : Type 0 where
  pub is_class : class_of memory weak (chunk_words memory class) ≡ Some metaclass
  pub is_instance : target memory metaclass (Field instance_field) ≡ Some class
  pub is_named : has_own_name memory class ≡ true

-- the only instance of a metaclass, with a name of its own
pub record IsNamedInstance (memory : Memory) (weak : Weak) (class : ℕ) : Type 0 where
  pub metaclass : ℕ
  pub is : IsNamedInstanceOf memory weak metaclass class

-- an object is a class if it is the class of a live object, or the only instance of a metaclass with
-- a name of its own
abbrev pub IsClass : Memory → Weak → ℕ → Type 0
IsClass memory weak class = ∥ IsClassOfLive memory weak class ⊎ IsNamedInstance memory weak class ∥₁

-- a metaclass has no name of its own, but its only instance has one
pub record IsMetaclass (memory : Memory) (class : ℕ) : Type 0 where
  pub instance : ℕ
  pub is_instance : target memory class (Field instance_field) ≡ Some instance
  pub is_named : has_own_name memory instance ≡ true
  pub is_unnamed : has_own_name memory class ≡ false

-- the objects of this set are the classes
pub record AreClasses (memory : Memory) (weak : Weak) (set : List Bool) : Type 0 where
  pub sound : (class : ℕ) → is_marked set class ≡ true → IsClass memory weak class
  pub complete : (class : ℕ) → class < object_count memory → IsClass memory weak class → is_marked set class ≡ true

-- ---- methods

-- the place of a method in a method dictionary: the selector is among the fields of the dictionary,
-- and the method at the same place in the dictionary's array of methods
pub record IsMethodIn (memory : Memory) (dictionary selector method : ℕ) : Type 0 where
  pub methods : ℕ
  pub place : ℕ
  pub has_methods : target memory dictionary (Field methods_field) ≡ Some methods
  pub has_selector : target memory dictionary (Field (first_selector_field + place)) ≡ Some selector
  pub has_method : target memory methods (Field place) ≡ Some method
  pub is_text : is_bytes memory selector ≡ true
  pub is_compiled : is_method memory method ≡ true

-- a method in the method dictionary of a class
pub record HasMethod (memory : Memory) (class selector method : ℕ) : Type 0 where
  pub dictionary : ℕ
  pub has_dictionary : target memory class (Field method_dictionary_field) ≡ Some dictionary
  pub is_in : IsMethodIn memory dictionary selector method

-- the method of a class under a selector
abbrev pub IsMethodOf : Memory → ℕ → ℕ → ℕ → Type 0
IsMethodOf memory class selector method = ∥ HasMethod memory class selector method ∥₁

-- ---- variables

-- the dictionary of the global variables
abbrev pub globals : Memory → Option ℕ
globals memory = option_and_then (λ special. target memory special (Field globals_field)) (find memory memory.special)

-- the dictionary of the class variables of a class, or of the global variables
abbrev pub dictionary_of : Memory → Option ℕ → Option ℕ
dictionary_of memory None = globals memory
dictionary_of memory (Some class) = target memory class (Field class_variables_field)

-- the array of the associations of that dictionary
abbrev pub associations_of : Memory → Option ℕ → Option ℕ
associations_of memory class =
    option_and_then (λ dictionary. target memory dictionary (Field associations_field)) (dictionary_of memory class)

-- the place of a variable in an array of associations: its association is an element, and its key is
-- a byte object
pub record IsVariableAmong (memory : Memory) (array association key : ℕ) : Type 0 where
  pub place : ℕ
  pub has_association : target memory array (Field place) ≡ Some association
  pub has_key : target memory association (Field key_field) ≡ Some key
  pub is_text : is_bytes memory key ≡ true

-- a variable of a dictionary: it is in the array of the dictionary's associations
pub record IsVariableIn (memory : Memory) (dictionary association key : ℕ) : Type 0 where
  pub associations : ℕ
  pub has_associations : target memory dictionary (Field associations_field) ≡ Some associations
  pub is_among : IsVariableAmong memory associations association key

-- a class variable of a class, or a global variable
pub record HasVariable (memory : Memory) (class : Option ℕ) (association key : ℕ) : Type 0 where
  pub dictionary : ℕ
  pub has_dictionary : dictionary_of memory class ≡ Some dictionary
  pub has_association : IsVariableIn memory dictionary association key

abbrev pub IsVariable : Memory → Option ℕ → ℕ → ℕ → Type 0
IsVariable memory class association key = ∥ HasVariable memory class association key ∥₁

-- a global variable: the dictionary of the global variables has its association
abbrev pub IsGlobal : Memory → ℕ → ℕ → Type 0
IsGlobal memory association key = IsVariable memory None association key

-- a class variable: the dictionary of the class variables of its class has its association
abbrev pub IsClassVariable : Memory → ℕ → ℕ → ℕ → Type 0
IsClassVariable memory class association key = IsVariable memory (Some class) association key
