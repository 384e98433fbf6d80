-- The categories of classes and methods.
use Rattle.std.specs.Prelude.{◌≡◌, ◌⊎◌, ◌==◌, nat_lt, max, ℕ, ℤ, pos, negsuc, Bool, true, false, if◌then◌else◌}
use Rattle.std.specs.Prelude.{List, [], ◌∷◌, length, codes, find, position, Option, Some, None, option_and_then}
use Rattle.std.specs.List.{range_with_len}
use Rattle.sqz_object.specs.declared.value.Value.{Value}
use Rattle.sqz_object.specs.declared.value.Value.TheVariants.{Int, Pointer, Odd}
use Rattle.sqz_object.specs.Chunk.{fields}
use Rattle.sqz_object.specs.Value.{value_of}
use Rattle.sqz_image.specs.declared.slot.Slot.TheVariants.{Field}
use Rattle.sqz_image.specs.Objects.{Memory, chunk_words}
use Rattle.sqz_trace.specs.declared.weak.Weak.{Weak}
use Rattle.sqz_trace.specs.Targets.{target}
use Rattle.sqz_names.specs.declared.label.Label.{Label}
use Rattle.sqz_names.specs.declared.label.Label.TheVariants.{Global, ClassVariable, String, Symbol}
use Rattle.sqz_names.specs.declared.variable_name.VariableName.{VariableName}
use Rattle.sqz_names.specs.Fields.{categories_field, category_ends_field, categorized_field, value_field}
use Rattle.sqz_names.specs.LabelOrder.{IsFirst}
use Rattle.sqz_names.specs.Labels.{IsLabel}
use Rattle.sqz_names.specs.Structures.{HasText, IsClass, IsClassVariable, IsGlobal}

-- ---- the arrays of an organizer

-- an array of an organizer, by the field that points to it
abbrev pub array_of : Memory → Option ℕ → ℕ → Option ℕ
array_of memory organizer field = option_and_then (λ organizer. target memory organizer (Field field)) organizer

-- whether a field of an array points to an object
abbrev pub points_to : Option ℕ → ℕ → Bool
points_to None object = false
points_to (Some target) object = target == object

-- the first of the first `count` fields of an array that points to an object
abbrev pub first_among : Memory → ℕ → ℕ → ℕ → Option ℕ
first_among memory array object count =
    find (λ field. points_to (target memory array (Field field)) object) (range_with_len 0 count)

-- the first field of an array that points to an object
abbrev pub first_field : Memory → ℕ → ℕ → Option ℕ
first_field memory array object = first_among memory array object (length (fields (chunk_words memory array)))

-- the first place of an object among those that an organizer lists
abbrev pub listed_at : Memory → Option ℕ → ℕ → Option ℕ
listed_at memory organizer listed =
    option_and_then (λ array. first_field memory array listed) (array_of memory organizer categorized_field)

-- ---- the ends of the categories

-- a number, and 0 for a negative one
abbrev pub from_zero : ℤ → ℕ
from_zero (pos number) = number
from_zero (negsuc below) = 0

-- the end that a word states: a SmallInteger
abbrev pub end_of : Value → Option ℕ
end_of (Int number) = Some (from_zero number)
end_of (Pointer address) = None
end_of (Odd word) = None

-- an end before others; no ends if there is none
abbrev pub with_end : Option ℕ → List ℕ → List ℕ
with_end None ends = []
with_end (Some end) ends = end ∷ ends

-- the ends that the fields of an array state, up to the first field that states none
abbrev pub ends_in : List ℕ → List ℕ
ends_in [] = []
ends_in (word ∷ words) = with_end (end_of (value_of word)) (ends_in words)

-- the ends in an array, if there is one
abbrev pub ends_of_array : Memory → Option ℕ → List ℕ
ends_of_array memory None = []
ends_of_array memory (Some array) = ends_in (fields (chunk_words memory array))

-- for each category of an organizer the number of listed objects up to its last one
abbrev pub category_ends : Memory → Option ℕ → List ℕ
category_ends memory organizer = ends_of_array memory (array_of memory organizer category_ends_field)

-- for each place of a list the largest number up to it, and at least `least`
abbrev pub maxima : ℕ → List ℕ → List ℕ
maxima least [] = []
maxima least (number ∷ numbers) = max least number ∷ maxima (max least number) numbers

-- ---- the category of a listed object

-- the place of the category of what is listed at a place: the first category that ends after it
abbrev pub category_at : List ℕ → ℕ → Option ℕ
category_at ends place = position (nat_lt place) ends

-- the place of the category of a listed object
abbrev pub category_place : Memory → Option ℕ → ℕ → Option ℕ
category_place memory organizer listed = option_and_then (category_at (category_ends memory organizer)) (listed_at memory organizer listed)

-- the object at that place of the organizer's array of categories
abbrev pub stated_category : Memory → Option ℕ → ℕ → Option ℕ
stated_category memory organizer listed =
    option_and_then (λ place. option_and_then (λ array. target memory array (Field place)) (array_of memory organizer categories_field))
    (category_place memory organizer listed)

-- whether a label is that of a string or a symbol
abbrev pub is_text_label : Label → Bool
is_text_label String = true
is_text_label Symbol = true
is_text_label _ = false

-- an object if its label, the first that the structures of the image state, is that of a string or a
-- symbol; else none
pub record IsIfText (memory : Memory) (weak : Weak) (object : ℕ) (category : Option ℕ) : Type 0 where
  pub label : Label
  pub is_label : IsLabel memory weak object label
  pub is_first : IsFirst memory weak object label
  pub is : category ≡ (if is_text_label label then Some object else None)

abbrev pub IsCategory : Memory → Weak → Option ℕ → Option ℕ → Type 0
IsCategory memory weak None category = category ≡ None
IsCategory memory weak (Some object) category = IsIfText memory weak object category

-- the category under which an organizer lists an object
abbrev pub IsCategoryOf : Memory → Weak → Option ℕ → ℕ → Option ℕ → Type 0
IsCategoryOf memory weak organizer listed category = IsCategory memory weak (stated_category memory organizer listed) category

-- ---- the organizer of the classes

-- the name of the global variable whose value is the organizer of the classes
abbrev pub organization_name : List ℕ
organization_name = codes "SystemOrganization"

-- whether a label is that of a variable
abbrev pub is_variable_label : Label → Bool
is_variable_label (Global key) = true
is_variable_label (ClassVariable class key) = true
is_variable_label _ = false

-- whether the label of an object, the first that the structures of the image state, is that of a
-- variable
pub record HasVariableLabel (memory : Memory) (weak : Weak) (object : ℕ) (has : Bool) : Type 0 where
  pub label : Label
  pub is_label : IsLabel memory weak object label
  pub is_first : IsFirst memory weak object label
  pub is : has ≡ is_variable_label label

-- the global variable with that name, and the label of a variable
pub record IsOrganization (memory : Memory) (weak : Weak) (variable : VariableName) : Type 0 where
  pub is_global : IsGlobal memory variable.association variable.key
  pub is_named : HasText memory organization_name variable.key
  pub has_label : HasVariableLabel memory weak variable.association true

-- a variable that is not global or has another name, or the label of something else
abbrev pub IsNoOrganization : Memory → Weak → VariableName → Type 0
IsNoOrganization memory weak variable =
    variable.class ≡ None → HasText memory organization_name variable.key → HasVariableLabel memory weak variable.association false

-- the value of that variable
pub record IsValueOfOrganization (memory : Memory) (weak : Weak) (value : Option ℕ) : Type 0 where
  pub variable : VariableName
  pub is_organization : IsOrganization memory weak variable
  pub is : value ≡ target memory variable.association (Field value_field)

-- a class that has an association among those of its class variables
pub record IsAlsoOfClass (memory : Memory) (weak : Weak) (association key : ℕ) : Type 0 where
  pub class : ℕ
  pub is_class : IsClass memory weak class
  pub has : IsClassVariable memory class association key

-- each global variable with that name has the label of something else, or is a class variable too
abbrev pub HasNoOrganization : Memory → Weak → Type 0
HasNoOrganization memory weak =
    (association key : ℕ) → IsGlobal memory association key → HasText memory organization_name key
    → ∥ HasVariableLabel memory weak association false ⊎ IsAlsoOfClass memory weak association key ∥₁

-- the organizer of the classes of an image; none if it has no such variable
abbrev pub IsSystemOrganizer : Memory → Weak → Option ℕ → Type 0
IsSystemOrganizer memory weak organizer =
    IsValueOfOrganization memory weak organizer ⊎ ((organizer ≡ None) × HasNoOrganization memory weak)
