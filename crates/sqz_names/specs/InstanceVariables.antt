-- The names of instance variables.
use Rattle.std.specs.Prelude.{ℕ, zero, suc, ◌==◌, if◌then◌else◌, List, [], ◌∷◌, length, map, filter_map, flat_map, reverse, sum_by}
use Rattle.std.specs.Prelude.{Option, Some, None, option_and_then, option_map}
use Rattle.std.specs.Bool.{then_some}
use Rattle.std.specs.List.{range_with_len}
use Rattle.sqz_object.specs.Chunk.{fields}
use Rattle.sqz_image.specs.declared.slot.Slot.TheVariants.{Field}
use Rattle.sqz_image.specs.Objects.{Memory, chunk_words}
use Rattle.sqz_trace.specs.Strong.{fixed_by}
use Rattle.sqz_trace.specs.Targets.{target}
use Rattle.sqz_names.specs.Fields.{superclass_field, instance_variables_field}
use Rattle.sqz_names.specs.Structures.{has_bytes}

-- a class, its superclass and so on, at most this many
abbrev pub classes_from : Memory → ℕ → Option ℕ → List ℕ
classes_from memory zero class = []
classes_from memory (suc most) None = []
classes_from memory (suc most) (Some class) = class ∷ classes_from memory most (target memory class (Field superclass_field))

-- the arrays of the names that each of these classes adds to those of its superclass
abbrev pub arrays_of : Memory → List ℕ → List ℕ
arrays_of memory classes = filter_map (λ class. target memory class (Field instance_variables_field)) classes

-- the arrays of the names that a class and its superclasses add, those of the class first. At most
-- 100 classes are followed, since a damaged image can have a cycle of them
unfoldable pub name_arrays : Memory → ℕ → List ℕ
name_arrays memory class = arrays_of memory (classes_from memory 100 (Some class))

-- an object, if it is a byte object
abbrev pub text_object : Memory → Option ℕ → Option ℕ
text_object memory object = if has_bytes memory object then object else None

-- the name in a field of an array; None if the field does not point to a byte object
abbrev pub name_in : Memory → ℕ → ℕ → Option ℕ
name_in memory array field = text_object memory (target memory array (Field field))

-- the names in the fields of an array, in order
abbrev pub names_in : Memory → ℕ → List (Option ℕ)
names_in memory array = map (name_in memory array) (range_with_len 0 (length (fields (chunk_words memory array))))

-- the number of the elements of arrays
abbrev pub name_count : Memory → List ℕ → ℕ
name_count memory arrays = sum_by (λ array. length (names_in memory array)) arrays

-- items, if each of them is there
abbrev pub all_some : List (Option ℕ) → Option (List ℕ)
all_some [] = Some []
all_some (None ∷ items) = None
all_some (Some item ∷ items) = option_map (λ others. item ∷ others) (all_some items)

-- the names that a class and its superclasses state, those of the highest superclass first; None if
-- an element of an array is no byte object
unfoldable pub stated_names : Memory → ℕ → Option (List ℕ)
stated_names memory class = all_some (flat_map (names_in memory) (reverse (name_arrays memory class)))

-- names, if there are this many
abbrev pub as_many : ℕ → List ℕ → Option (List ℕ)
as_many count names = then_some (length names == count) names

-- the names of the instance variables of a class, those of its superclasses first: the names that
-- these classes state, if there are as many as the class states fixed fields; else None
unfoldable pub instance_variables : Memory → ℕ → Option (List ℕ)
instance_variables memory class =
    option_and_then (λ fixed. option_and_then (as_many fixed) (stated_names memory class)) (fixed_by memory (Some class))
