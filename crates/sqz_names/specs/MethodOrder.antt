-- The order in which methods are listed.
use Rattle.std.specs.Prelude.{ℕ, zero, suc, ◌-◌, ◌==◌, ◌&&◌, ◌||◌, if◌then◌else◌, Bool, false}
use Rattle.std.specs.Prelude.{List, [], ◌++◌, length, filter_map, Option, Some, None}
use Rattle.std.specs.Bool.{then_some}
use Rattle.std.specs.List.{range_with_len}
use Rattle.sqz_object.specs.Chunk.{fields}
use Rattle.sqz_image.specs.declared.slot.Slot.TheVariants.{Field}
use Rattle.sqz_image.specs.Objects.{Memory, chunk_words}
use Rattle.sqz_trace.specs.Targets.{target}
use Rattle.sqz_names.specs.declared.method_name.MethodName.{MethodName}
use Rattle.sqz_names.specs.Fields.{first_selector_field, method_dictionary_field, methods_field}
use Rattle.sqz_names.specs.Structures.{is_bytes, is_method}

-- ---- the methods of a method dictionary

-- a method of a class under a selector; None unless the selector is a byte object, and the method a
-- compiled method
abbrev pub method_named : Memory → ℕ → Option ℕ → Option ℕ → Option MethodName
method_named memory class (Some selector) (Some method) =
    then_some (is_bytes memory selector && is_method memory method) (record { method = method; class = class; selector = selector })
method_named memory class (Some selector) None = None
method_named memory class None method = None

-- the method under the selector in a field of a method dictionary
abbrev pub method_under : Memory → ℕ → ℕ → ℕ → ℕ → Option MethodName
method_under memory class dictionary methods field =
    method_named memory class (target memory dictionary (Field field)) (target memory methods (Field (field - first_selector_field)))

-- the methods in an array, in the order of the places of their method dictionary
abbrev pub methods_among : Memory → ℕ → ℕ → Option ℕ → List MethodName
methods_among memory class dictionary None = []
methods_among memory class dictionary (Some methods) =
    filter_map (method_under memory class dictionary methods)
    (range_with_len first_selector_field (length (fields (chunk_words memory dictionary)) - first_selector_field))

-- the methods of a method dictionary, as those of a class, in the order of its places: one for each
-- place that has a method
abbrev pub methods_in : Memory → ℕ → ℕ → List MethodName
methods_in memory class dictionary = methods_among memory class dictionary (target memory dictionary (Field methods_field))

-- ---- the methods of classes

-- the methods of a class, unless its method dictionary is listed already
abbrev pub new_methods_in : Memory → (ℕ → Bool) → ℕ → Option ℕ → List MethodName
new_methods_in memory is_listed class None = []
new_methods_in memory is_listed class (Some dictionary) = if is_listed dictionary then [] else methods_in memory class dictionary

abbrev pub new_methods : Memory → (ℕ → Bool) → ℕ → List MethodName
new_methods memory is_listed class = new_methods_in memory is_listed class (target memory class (Field method_dictionary_field))

-- whether there is an object, and it is this one
abbrev pub is_object : ℕ → Option ℕ → Bool
is_object object None = false
is_object object (Some found) = found == object

-- whether a class has this method dictionary
abbrev pub has_dictionary : Memory → ℕ → ℕ → Bool
has_dictionary memory dictionary class = is_object dictionary (target memory class (Field method_dictionary_field))

-- whether one of the first objects that pass a test has this method dictionary
abbrev pub is_listed_before : Memory → (ℕ → Bool) → ℕ → ℕ → Bool
is_listed_before memory test zero dictionary = false
is_listed_before memory test (suc class) dictionary =
    is_listed_before memory test class dictionary || (test class && has_dictionary memory dictionary class)

-- the methods of the first objects that pass a test, in the order of the objects: those of each
-- method dictionary once, for the first object that has it
abbrev pub methods_by_class : Memory → (ℕ → Bool) → ℕ → List MethodName
methods_by_class memory test zero = []
methods_by_class memory test (suc class) =
    methods_by_class memory test class ++ (if test class then new_methods memory (is_listed_before memory test class) class else [])
