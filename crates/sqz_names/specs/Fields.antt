-- The numbers of the fields that names are found by, as the module `fields` of the code has them.
use Rattle.std.specs.Prelude.{ℕ}

-- ---- the special objects array

-- nil
abbrev pub nil_field : ℕ
nil_field = 0

-- false
abbrev pub false_field : ℕ
false_field = 1

-- true
abbrev pub true_field : ℕ
true_field = 2

-- the dictionary of the global variables
abbrev pub globals_field : ℕ
globals_field = 8

-- ---- a class

-- its superclass
abbrev pub superclass_field : ℕ
superclass_field = 0

-- its method dictionary
abbrev pub method_dictionary_field : ℕ
method_dictionary_field = 1

-- the array of the names of the instance variables that it adds to those of its superclass
abbrev pub instance_variables_field : ℕ
instance_variables_field = 3

-- the only instance of a metaclass
abbrev pub instance_field : ℕ
instance_field = 5

-- the name of a class that is no metaclass
abbrev pub name_field : ℕ
name_field = 6

-- the dictionary of its class variables
abbrev pub class_variables_field : ℕ
class_variables_field = 7

-- ---- dictionaries

-- the array of the associations of a dictionary
abbrev pub associations_field : ℕ
associations_field = 1

-- the array of the methods of a method dictionary
abbrev pub methods_field : ℕ
methods_field = 1

-- the first selector of a method dictionary; the other selectors follow
abbrev pub first_selector_field : ℕ
first_selector_field = 2

-- ---- an association

-- its key
abbrev pub key_field : ℕ
key_field = 0

-- its value
abbrev pub value_field : ℕ
value_field = 1

-- ---- an organizer

-- the array of its categories
abbrev pub categories_field : ℕ
categories_field = 1

-- the array that has for each category the number of listed objects up to its last one
abbrev pub category_ends_field : ℕ
category_ends_field = 2

-- the array of the objects that it lists, in the order of their categories
abbrev pub categorized_field : ℕ
categorized_field = 3
