-- The classes of an image, their method dictionaries, and the associations of all variables.
use Rattle.std.specs.Prelude.{ℕ, ◌-◌, nat_eq, nat_lt, ◌&&◌, ◌||◌, not, Bool, true, false, if◌then◌else◌, List, [], ◌∷◌, ◌++◌, length}
use Rattle.std.specs.Prelude.{Option, Some, None, option_and_then}
use Rattle.std.specs.Option.{option_eq}
use Rattle.std.specs.List.{filter_map, flat_map, range_with_len}
use Rattle.sqz_object.specs.Chunk.{fields}
use Rattle.sqz_image.specs.declared.slot.Slot.TheVariants.{Field}
use Rattle.sqz_image.specs.Objects.{Memory, object_count, chunk_words, find}
use Rattle.sqz_trace.specs.declared.weak.Weak.{Weak}
use Rattle.sqz_trace.specs.Graph.{is_marked}
use Rattle.sqz_trace.specs.Slots.{traced}
use Rattle.sqz_trace.specs.Strong.{class_of}
use Rattle.sqz_trace.specs.Targets.{target}
use Rattle.sqz_facts.specs.Classes.{can_be_class}
use Rattle.sqz_names.specs.Fields.{method_dictionary_field, instance_field, methods_field, first_selector_field}
use Rattle.sqz_names.specs.Fields.{class_variables_field, globals_field, nil_field, associations_field, key_field}
use Rattle.sqz_names.specs.Structures.{has_own_name}

-- the class of the object with an index, if the object is marked
abbrev pub class_at : Memory → Weak → List Bool → ℕ → Option ℕ
class_at memory weak marks index = if is_marked marks index then class_of memory weak (chunk_words memory index) else None

-- the classes of the marked objects
abbrev pub class_list : Memory → Weak → List Bool → List ℕ
class_list memory weak marks = filter_map (class_at memory weak marks) (range_with_len 0 (object_count memory))

-- whether an object is the only instance of a metaclass, with a name of its own
abbrev pub is_named_instance : Memory → Weak → ℕ → Bool
is_named_instance memory weak object =
    option_eq nat_eq
    (option_and_then (λ class. target memory class (Field instance_field)) (class_of memory weak (chunk_words memory object)))
    (Some object)
    && has_own_name memory object

-- whether an object is a class: the class of a marked object, or a marked instance of a metaclass
abbrev pub is_class : Memory → Weak → List Bool → List Bool → ℕ → Bool
is_class memory weak marks classes object =
    is_marked classes object || (is_marked marks object && is_named_instance memory weak object)

-- what a field of the object with an index points to, if the object is a class
abbrev pub held_at : Memory → Weak → List Bool → List Bool → ℕ → ℕ → Option ℕ
held_at memory weak marks classes field index =
    if is_class memory weak marks classes index then target memory index (Field field) else None

-- what this field of all classes points to
abbrev pub held_list : Memory → Weak → List Bool → List Bool → ℕ → List ℕ
held_list memory weak marks classes field =
    filter_map (held_at memory weak marks classes field) (range_with_len 0 (object_count memory))

-- the method dictionaries of all classes
abbrev pub dictionary_list : Memory → Weak → List Bool → List Bool → List ℕ
dictionary_list memory weak marks classes = held_list memory weak marks classes method_dictionary_field

-- what a field of the special objects array points to
abbrev pub special_at : Memory → ℕ → Option ℕ
special_at memory field = option_and_then (λ special. target memory special (Field field)) (find memory memory.special)

abbrev pub listed : Option ℕ → List ℕ
listed None = []
listed (Some object) = object ∷ []

-- the dictionaries of the class variables of all classes, and that of the global variables
abbrev pub pool_list : Memory → Weak → List Bool → List Bool → List ℕ
pool_list memory weak marks classes =
    held_list memory weak marks classes class_variables_field ++ listed (special_at memory globals_field)

-- the array of the dictionary with an index, if this set has it
abbrev pub array_at : Memory → List Bool → ℕ → Option ℕ
array_at memory pools index = if is_marked pools index then target memory index (Field associations_field) else None

-- the arrays of these dictionaries
abbrev pub array_list : Memory → List Bool → List ℕ
array_list memory pools = filter_map (array_at memory pools) (range_with_len 0 (object_count memory))

-- what the fields of an object point to
abbrev pub elements_of : Memory → ℕ → List ℕ
elements_of memory array =
    filter_map (λ field. target memory array (Field field)) (range_with_len 0 (traced (chunk_words memory array)))

-- the elements of the array with an index, if this set has it
abbrev pub elements_at : Memory → List Bool → ℕ → List ℕ
elements_at memory arrays index = if is_marked arrays index then elements_of memory index else []

-- the elements of these arrays
abbrev pub element_list : Memory → List Bool → List ℕ
element_list memory arrays = flat_map (elements_at memory arrays) (range_with_len 0 (object_count memory))

-- whether there is an array, and it has fewer fields than this
abbrev pub has_fewer : Memory → ℕ → Option ℕ → Bool
has_fewer memory count None = false
has_fewer memory count (Some array) = nat_lt (length (fields (chunk_words memory array))) count

-- whether a method dictionary has an array with fewer methods than it has keys
abbrev pub is_short : Memory → ℕ → Bool
is_short memory dictionary =
    has_fewer memory (length (fields (chunk_words memory dictionary)) - first_selector_field)
    (target memory dictionary (Field methods_field))

-- whether there is a key, and it is nil
abbrev pub is_nil_key : Memory → Option ℕ → Bool
is_nil_key memory None = false
is_nil_key memory (Some key) = option_eq nat_eq (special_at memory nil_field) (Some key)

-- whether the key of an association is nil
abbrev pub has_no_key : Memory → ℕ → Bool
has_no_key memory association = is_nil_key memory (target memory association (Field key_field))

-- whether the class of an object is found, and can be no class
abbrev pub is_no_class : Memory → Option ℕ → Bool
is_no_class memory None = false
is_no_class memory (Some class) = not (can_be_class memory class)

abbrev pub has_no_class : Memory → Weak → ℕ → Bool
has_no_class memory weak object = is_no_class memory (class_of memory weak (chunk_words memory object))

-- whether there is no object, or it is nil
abbrev pub is_none_or_nil : Memory → Option ℕ → Bool
is_none_or_nil memory None = true
is_none_or_nil memory (Some object) = is_nil_key memory (Some object)

-- whether an object can be a class, and its method dictionary is nil, or no object
abbrev pub lacks_methods : Memory → ℕ → Bool
lacks_methods memory object =
    can_be_class memory object && is_none_or_nil memory (target memory object (Field method_dictionary_field))
