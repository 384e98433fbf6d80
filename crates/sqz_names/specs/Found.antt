-- What words are found to stand for.
use Rattle.std.specs.Prelude.{◌≡◌, ◌<◌, ℕ, Bool, List, [], ◌∷◌, filter, All, Option, Some, None}
use Rattle.std.specs.Option.{option_or, option_and_then}
use Rattle.sqz_image.specs.declared.slot.Slot.TheVariants.{Field}
use Rattle.sqz_image.specs.Objects.{Memory, find, object_count}
use Rattle.sqz_histogram.specs.declared.group.Group.{Group}
use Rattle.sqz_histogram.specs.declared.group.Group.TheVariants.{Class}
use Rattle.sqz_trace.specs.Graph.{is_marked}
use Rattle.sqz_trace.specs.Targets.{target}
use Rattle.sqz_names.specs.declared.words.found.Found.{Found}
use Rattle.sqz_names.specs.declared.words.found.Found.TheVariants.{One, Nothing}
use Rattle.sqz_names.specs.declared.words.found.Missing.{Missing}
use Rattle.sqz_names.specs.declared.words.found.Missing.TheVariants.{NoObjectAt, NoSpecialObject, Ambiguous}

-- ---- what is known of the image

-- what is said of words that stand for nothing is true of the image: no object has the address, and
-- those that have the name are objects
abbrev pub IsMissing : Memory → Missing → Type 0
IsMissing memory (NoObjectAt address) = find memory address ≡ None
IsMissing memory (Ambiguous objects) = All (λ object. object < object_count memory) objects.items
IsMissing memory _ = Unit {0}

-- a fact about why words stand for nothing, if they do
abbrev pub IfNothing : {T : Type 0} → Found T → (Missing → Type 0) → Type 0
IfNothing (One found) P = Unit {0}
IfNothing (Nothing missing) P = P missing

-- an object is found that the image has, or what is said is true of the image
abbrev pub IsFoundIn : Memory → Found ℕ → Type 0
IsFoundIn memory (One object) = object < object_count memory
IsFoundIn memory (Nothing missing) = IsMissing memory missing

-- a fact about the object that is found, or about each of those that have the name
abbrev pub IsAbout : (ℕ → Type 0) → Found ℕ → Type 0
IsAbout P (One object) = P object
IsAbout P (Nothing (Ambiguous objects)) = All P objects.items
IsAbout P (Nothing _) = ⊥

-- ---- what is found

-- the object with an address
abbrev pub IsAt : Memory → ℕ → Found ℕ → Type 0
IsAt memory address (One object) = find memory address ≡ Some object
IsAt memory address (Nothing (NoObjectAt stated)) = (stated ≡ address) × (find memory address ≡ None)
IsAt memory address (Nothing _) = ⊥

-- the object that a field of the special objects array points to
abbrev pub special_target : Memory → ℕ → Option ℕ
special_target memory field = option_and_then (λ special. target memory special (Field field)) (find memory memory.special)

abbrev pub IsSpecialObject : Memory → ℕ → Found ℕ → Type 0
IsSpecialObject memory field (One object) = special_target memory field ≡ Some object
IsSpecialObject memory field (Nothing (NoSpecialObject stated)) = (stated ≡ field) × (special_target memory field ≡ None)
IsSpecialObject memory field (Nothing _) = ⊥

-- the object of a list that has one
abbrev pub only_one : List ℕ → Option ℕ
only_one (object ∷ []) = Some object
only_one _ = None

-- the only one of objects, or the only marked one
abbrev pub the_only : List Bool → List ℕ → Option ℕ
the_only marks objects = option_or (only_one objects) (only_one (filter (is_marked marks) objects))

abbrev pub IsOnly : List Bool → List ℕ → Found ℕ → Type 0
IsOnly marks objects (One object) = the_only marks objects ≡ Some object
IsOnly marks objects (Nothing (Ambiguous named)) = (named.items ≡ objects) × (the_only marks objects ≡ None)
IsOnly marks objects (Nothing _) = ⊥

-- the group of the instances of a class that is found
abbrev pub found_group : Found ℕ → Found Group
found_group (One class) = One (Class class)
found_group (Nothing missing) = Nothing missing
