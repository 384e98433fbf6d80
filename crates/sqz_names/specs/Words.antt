-- What words stand for.
use Rattle.std.specs.Prelude.{◌≡◌, ◌⊎◌, ◌<◌, ℕ, Bool, true, List, [], ◌∷◌, ◌++◌, codes, Some, None}
use Rattle.sqz_image.specs.Objects.{Memory, find, object_count}
use Rattle.sqz_trace.specs.declared.weak.Weak.{Weak}
use Rattle.sqz_trace.specs.Graph.{is_marked}
use Rattle.sqz_histogram.specs.declared.group.Group.{Group}
use Rattle.sqz_histogram.specs.declared.group.Group.TheVariants.{Compact}
use Rattle.sqz_names.specs.Names.{IsClassNamed, IsMethodNamed}
use Rattle.sqz_names.specs.Picks.{AreObjectsThat}
use Rattle.sqz_names.specs.Structures.{IsClass}
use Rattle.sqz_names.specs.Texts.{HasLabel, HasOnlyLabel, HasShortLabel}
use Rattle.sqz_names.specs.declared.words.found.Found.{Found}
use Rattle.sqz_names.specs.declared.words.found.Found.TheVariants.{One, Nothing}
use Rattle.sqz_names.specs.declared.words.found.Missing.TheVariants.{NoObjectAt, NoClassAt, NoObjectNamed, NoClassNamed}
use Rattle.sqz_names.specs.Found.{IsAt, IsOnly, IsSpecialObject, found_group}
use Rattle.sqz_names.specs.Numbers.{class_text, IsAddress, IsCompact, IsExplicitAddress, IsSpecialField}

-- words state a number in a form, about which a fact is true; if they are not of this form,
-- another fact is true
abbrev pub IfReads : (ℕ → Type 0) → (ℕ → Type 0) → Type 0 → Type 0
IfReads States Is Else = ((number : ℕ) × States number × Is number) ⊎ (((number : ℕ) → States number → ⊥) × Else)

-- the one of the objects that have a name is found; if none has it, another fact is true
abbrev pub IsOneOf : List Bool → List ℕ → Found ℕ → Type 0 → Type 0
IsOneOf marks [] found Else = Else
IsOneOf marks (object ∷ more) found Else = IsOnly marks (object ∷ more) found

abbrev pub IfNamed : Memory → List Bool → (ℕ → Type 0) → Found ℕ → Type 0 → Type 0
IfNamed memory marks IsNamed found Else = (objects : List ℕ) × AreObjectsThat memory IsNamed objects × IsOneOf marks objects found Else

-- ---- objects

-- a class with this name, with or without `class` before it
abbrev pub IsClassCalled : Memory → Weak → List ℕ → ℕ → Type 0
IsClassCalled memory weak words class = IsClassNamed memory weak words class ⊎ IsClassNamed memory weak (class_text words) class

-- the object with the address that digits write
pub record IsIn (memory : Memory) (digits : List ℕ) (object : ℕ) : Type 0 where
  pub address : ℕ
  pub is_address : IsAddress digits address
  pub is_at : find memory address ≡ Some object

-- the words are a label, a space and the address of the object that has the label
pub record IsAddressed (memory : Memory) (weak : Weak) (words : List ℕ) (object : ℕ) : Type 0 where
  pub label : List ℕ
  pub digits : List ℕ
  pub split : words ≡ label ++ (codes " " ++ digits)
  pub is_in : IsIn memory digits object
  pub has_label : HasShortLabel memory weak object label

-- the words are the name of an object or its label, with or without its address
abbrev pub IsNamed : Memory → Weak → List ℕ → ℕ → Type 0
IsNamed memory weak words object =
    ∥ IsClassCalled memory weak words object
    ⊎ (IsMethodNamed memory weak words object ⊎ (HasLabel memory weak object words ⊎ IsAddressed memory weak words object)) ∥₁

-- the words are the name of an object, or the only label that it can have
abbrev pub IsSurelyNamed : Memory → Weak → List ℕ → ℕ → Type 0
IsSurelyNamed memory weak words object =
    IsClassCalled memory weak words object ⊎ (IsMethodNamed memory weak words object ⊎ HasOnlyLabel memory weak object words)

-- the objects of this set have this name or label, and those that surely have are in it
pub record AreNamed (memory : Memory) (weak : Weak) (words : List ℕ) (set : List Bool) : Type 0 where
  pub sound : (object : ℕ) → is_marked set object ≡ true → IsNamed memory weak words object
  pub complete : (object : ℕ) → object < object_count memory → IsSurelyNamed memory weak words object → is_marked set object ≡ true

-- and these are the objects of such a set, by index
pub record AreAllNamed (memory : Memory) (weak : Weak) (words : List ℕ) (objects : List ℕ) : Type 0 where
  pub set : List Bool
  pub are_named : AreNamed memory weak words set
  pub are_its : AreObjectsThat memory (λ object. is_marked set object ≡ true) objects

-- the object that words stand for: if they are an address, the class with this name, or the object
-- with the address; else the object with this name or label
abbrev pub IsNamedObject : Memory → Weak → List Bool → List ℕ → Found ℕ → Type 0
IsNamedObject memory weak marks words found =
    IfReads (IsAddress words)
    (λ address. IfNamed memory marks (IsClassCalled memory weak words) found (IsAt memory address found))
    ((objects : List ℕ) × AreAllNamed memory weak words objects × IsOneOf marks objects found (found ≡ Nothing NoObjectNamed))

-- the object that words stand for, where an address after `0x` and a field of the special objects
-- array come before names
abbrev pub IsObject : Memory → Weak → List Bool → List ℕ → Found ℕ → Type 0
IsObject memory weak marks words found =
    IfReads (IsExplicitAddress words) (λ address. IsAt memory address found)
    (IfReads (IsSpecialField words) (λ field. IsSpecialObject memory field found)
    (IsNamedObject memory weak marks words found))

-- ---- classes

-- the class with an address
abbrev pub IsClassAt : Memory → Weak → ℕ → Found ℕ → Type 0
IsClassAt memory weak address (One class) = (find memory address ≡ Some class) × IsClass memory weak class
IsClassAt memory weak address (Nothing (NoObjectAt stated)) = (stated ≡ address) × (find memory address ≡ None)
IsClassAt memory weak address (Nothing (NoClassAt stated)) =
    (stated ≡ address) × ((object : ℕ) × (find memory address ≡ Some object) × (IsClass memory weak object → ⊥))
IsClassAt memory weak address (Nothing _) = ⊥

-- the class that words stand for: that with an address after `0x`, with a name, or with an address
abbrev pub IsClassMeant : Memory → Weak → List Bool → List ℕ → Found ℕ → Type 0
IsClassMeant memory weak marks words found =
    IfReads (IsExplicitAddress words) (λ address. IsClassAt memory weak address found)
    (IfNamed memory marks (IsClassCalled memory weak words) found
    (IfReads (IsAddress words) (λ address. IsClassAt memory weak address found) (found ≡ Nothing NoClassNamed)))

-- the group that words stand for: the objects with a compact index and no class, or the instances of
-- a class
abbrev pub IsGroup : Memory → Weak → List Bool → List ℕ → Found Group → Type 0
IsGroup memory weak marks words found =
    IfReads (IsCompact words) (λ index. found ≡ One (Compact index))
    ((class : Found ℕ) × IsClassMeant memory weak marks words class × (found ≡ found_group class))
