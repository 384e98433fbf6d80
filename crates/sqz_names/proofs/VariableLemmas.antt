-- What holds the association of a variable, and lists of variables.
-- Serves `held_variables::Names::held`, `variables` and `names::Names::of`.
use Rattle.std.proofs.Common.{◌≡◌, ℕ, ◌+◌, ◌<◌, ◌≤◌, Bool, true, false, true≢false, List, [], ◌∷◌, ◌++◌, length, set, replicate, Contains}
use Rattle.std.proofs.Common.{Option, None, Some, sym, ap, subst, ◌∙◌, inl, inr, arith}
use Rattle.std.proofs.Math.Logic.{∥∥₁_elim, ∥∥₁_map, ∥∥₁_prop}
use Rattle.std.proofs.lemmas.Bool.{cases_lt}
use Rattle.std.proofs.lemmas.List.Elements.{Contains-append_left, Contains-push}
use Rattle.std.proofs.lemmas.Option.{none-some, option_and_then_some, same_Some}
use Rattle.std.specs.Option.{is_some, option_and_then, IsSome}
use mathlib.Core.Bool.{Bool-set}
use Rattle.sqz_object.specs.Chunk.{fields}
use Rattle.sqz_image.specs.declared.slot.Slot.TheVariants.{Field}
use Rattle.sqz_image.specs.Objects.{Memory, chunk_words, object_count}
use Rattle.sqz_trace.specs.declared.weak.Weak.{Weak}
use Rattle.sqz_trace.specs.Slots.{traced}
use Rattle.sqz_trace.specs.Targets.{target}
use Rattle.sqz_trace.proofs.SlotLemmas.{traced_inside}
use Rattle.sqz_trace.proofs.TargetLemmas.{named_among-cases}
use Rattle.sqz_names.specs.declared.variable_name.VariableName.{VariableName}
use Rattle.sqz_names.specs.Fields.{associations_field, key_field}
use Rattle.sqz_names.specs.Names.{IsElement, ListsVariable, ListsVariables, ListsVariablesOf}
use Rattle.sqz_names.specs.NameLists.{ListsArray, ListsArrays}
use Rattle.sqz_names.specs.Structures.{is_bytes, dictionary_of, associations_of, HasVariable, IsClass, IsVariable, IsVariableAmong}
use Rattle.sqz_names.proofs.ClassLemmas.{is_marked-none}
use Rattle.sqz_trace.proofs.MarkingLemmas.{is_marked-more}

module _ (memory : Memory) (class : Option ℕ) (association key : ℕ) where
  -- the array of the associations, by their dictionary
  pub associations_of-dictionary : (dictionary : ℕ) → dictionary_of memory class ≡ Some dictionary
      → associations_of memory class ≡ target memory dictionary (Field associations_field)
  associations_of-dictionary dictionary is =
      ap (option_and_then (λ (it : ℕ). target memory it (Field associations_field))) is

  -- the array that has the association
  associations_of-has : (held : HasVariable memory class association key)
      → associations_of memory class ≡ Some held.has_association.associations
  associations_of-has held =
      associations_of-dictionary held.dictionary held.has_dictionary ∙ held.has_association.has_associations

  pub IsSome-dictionary : IsVariable memory class association key → IsSome (dictionary_of memory class)
  IsSome-dictionary is = ∥∥₁_elim is (Bool-set _ _) (λ held. ap is_some held.has_dictionary)

  pub IsSome-associations : IsVariable memory class association key → IsSome (associations_of memory class)
  IsSome-associations is = ∥∥₁_elim is (Bool-set _ _) (λ held. ap is_some (associations_of-has held))

  -- the association is an element of that array
  pub IsElement-association : (array : ℕ) → IsVariable memory class association key
      → associations_of memory class ≡ Some array → ∥ IsElement memory array association ∥₁
  IsElement-association array is held =
      ∥∥₁_map is (λ it. record {
        place = it.has_association.is_among.place;
        is = subst (λ (a : ℕ). target memory a (Field it.has_association.is_among.place) ≡ Some association)
            (same_Some _ _ (sym (associations_of-has it) ∙ held)) it.has_association.is_among.has_association;
      })

  -- an element of that array whose key is a byte object
  pub IsVariable-element : (array place : ℕ) → associations_of memory class ≡ Some array
      → target memory array (Field place) ≡ Some association → target memory association (Field key_field) ≡ Some key
      → is_bytes memory key ≡ true → IsVariable memory class association key
  IsVariable-element array place held listed has_key text =
      option_and_then_some (λ (it : ℕ). target memory it (Field associations_field)) (dictionary_of memory class) array held
      (λ dictionary is its. ∣ record {
        dictionary = dictionary;
        has_dictionary = is;
        has_association = record {
          associations = array;
          has_associations = its;
          is_among = record { place = place; has_association = listed; has_key = has_key; is_text = text };
        };
      } ∣₁)

-- ---- lists of variables

pub ListsVariable-keeps : (old new : List VariableName) → ((name : VariableName) → Contains old name → Contains new name)
    → (association key : ℕ) → ListsVariable old association key → ListsVariable new association key
ListsVariable-keeps old new keeps association key is = record { class = is.class; has = keeps _ is.has }

module _ (memory : Memory) where
  pub ListsArrays-none : (count : ℕ) (names : List VariableName) → ListsArrays memory (replicate count false) names
  ListsArrays-none count names array marked = absurd (true≢false (sym marked ∙ is_marked-none count array))

  pub ListsArrays-keeps : (arrays : List Bool) (old new : List VariableName)
      → ((name : VariableName) → Contains old name → Contains new name) → ListsArrays memory arrays old
      → ListsArrays memory arrays new
  ListsArrays-keeps arrays old new keeps are array marked association key is =
      ∥∥₁_map (are array marked association key is) (ListsVariable-keeps old new keeps association key)

  -- one array more
  pub ListsArrays-more : (arrays : List Bool) (names : List VariableName) (array : ℕ) → ListsArrays memory arrays names
      → ListsArray memory array names → ListsArrays memory (set arrays array true) names
  ListsArrays-more arrays names array are its = is_marked-more (λ (it : ℕ). ListsArray memory it names) arrays array are its

  -- the variables of a dictionary are those of its array
  pub ListsVariablesOf-array : (names : List VariableName) (class : Option ℕ) (array : ℕ)
      → associations_of memory class ≡ Some array → ListsArray memory array names → ListsVariablesOf memory names class
  ListsVariablesOf-array names class array its are association key is =
      ∥∥₁_elim is ∥∥₁_prop (λ held.
      are association key
      (subst (λ (it : ℕ). IsVariableAmong memory it association key)
      (same_Some _ _ (sym (associations_of-has memory class association key held) ∙ its)) held.has_association.is_among))

  -- without such an array there are no variables
  pub ListsVariablesOf-none : (names : List VariableName) (class : Option ℕ) → associations_of memory class ≡ None
      → ListsVariablesOf memory names class
  ListsVariablesOf-none names class lacks association key is =
      ∥∥₁_map is (λ held. absurd (none-some _ (sym lacks ∙ associations_of-has memory class association key held)))

  pub ListsVariablesOf-keeps : (old new : List VariableName) → ((name : VariableName) → Contains old name → Contains new name)
      → (class : Option ℕ) → ListsVariablesOf memory old class → ListsVariablesOf memory new class
  ListsVariablesOf-keeps old new keeps class are association key is =
      ∥∥₁_map (are association key is) (ListsVariable-keeps old new keeps association key)

-- the global variables, and the class variables of all classes
pub ListsVariables-all : (memory : Memory) (weak : Weak) (names : List VariableName) (end : ℕ) → object_count memory ≤ end
    → ListsVariablesOf memory names None
    → ((class : ℕ) → class < end → IsClass memory weak class → ListsVariablesOf memory names (Some class))
    → ListsVariables memory weak names
ListsVariables-all memory weak names end le globals each None is = globals
ListsVariables-all memory weak names end le globals each (Some class) is = each class (omega (arith, le, is.0)) is.1

-- ---- the variables of an array, field by field

module _ (memory : Memory) (array : ℕ) where
  -- a list has the variables whose associations are in fields below this one
  abbrev pub ListsVariablesBelow : ℕ → List VariableName → Type 0
  ListsVariablesBelow field names =
      (association key : ℕ) (is : IsVariableAmong memory array association key) → is.place < field
      → ∥ ListsVariable names association key ∥₁

  module _ (field : ℕ) (names : List VariableName) (are : ListsVariablesBelow field names) where
    -- one field more, which has no association of a variable
    pub ListsVariablesBelow-skip : ((association key : ℕ) (is : IsVariableAmong memory array association key)
        → target memory array (Field field) ≡ Some association → ⊥) → ListsVariablesBelow (field + 1) names
    ListsVariablesBelow-skip never association key is lt =
        elim (cases_lt is.place field) [
          | inl below ↦ are association key is below
          | inr above ↦
              let same : is.place ≡ field = omega (arith, lt, above) in
              absurd (never association key is
              (subst (λ (it : ℕ). target memory array (Field it) ≡ Some association) same is.has_association))
        ]

    -- one field more, which has the association of a variable that is listed
    pub ListsVariablesBelow-push : (name : VariableName)
        → ((association key : ℕ) (is : IsVariableAmong memory array association key)
        → target memory array (Field field) ≡ Some association → (name.association ≡ association) × (name.key ≡ key))
        → ListsVariablesBelow (field + 1) (names ++ name ∷ [])
    ListsVariablesBelow-push name only association key is lt =
        elim (cases_lt is.place field) [
          | inl below ↦
              ∥∥₁_map (are association key is below)
              (ListsVariable-keeps names (names ++ name ∷ []) (Contains-append_left names (name ∷ [])) association key)
          | inr above ↦
              let place : is.place ≡ field = omega (arith, lt, above) in
              let same = only association key is
              (subst (λ (it : ℕ). target memory array (Field it) ≡ Some association) place is.has_association) in
              ∣ subst (λ (it : ℕ). ListsVariable (names ++ name ∷ []) association it) same.1
              (subst (λ (it : ℕ). ListsVariable (names ++ name ∷ []) it name.key) same.0
              (record { class = name.class; has = Contains-push names name })) ∣₁
        ]

  -- all fields
  pub ListsArray-all : (field : ℕ) (names : List VariableName) → length (fields (chunk_words memory array)) ≤ field
      → ListsVariablesBelow field names → ListsArray memory array names
  ListsArray-all field names end are association key is =
      let chunk = chunk_words memory array in
      let held = named_among-cases memory chunk (traced chunk) is.place association is.has_association in
      are association key is (omega (arith, held.0, traced_inside chunk, end))
