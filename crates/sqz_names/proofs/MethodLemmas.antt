-- Lists of methods, and methods with a name.
-- Serves `methods`, `names`, `labels::Names::known` and `lookup`.
use Rattle.std.proofs.Common.{◌≡◌, ◌++◌, [], ◌∷◌, ℕ, ◌+◌, ◌-◌, ◌<◌, ◌≤◌, Bool, true, false, true≢false, List, Contains, set, length, take, replicate, None, Some}
use Rattle.std.proofs.Common.{refl, sym, ap, subst, ◌∙◌, inl, inr, arith}
use Rattle.std.proofs.Math.Logic.{∥∥₁_elim, ∥∥₁_map, ∥∥₁_prop}
use Rattle.std.proofs.lemmas.Bool.{cases_lt}
use Rattle.std.proofs.lemmas.List.{append_cancel_left, take_at}
use Rattle.std.proofs.lemmas.List.Elements.{Contains-append_left, Contains-push}
use Rattle.std.proofs.lemmas.Option.{none-some, same_Some}
use Rattle.std.proofs.lemmas.Slice.Eq.{bytes_eq-Decides}
use Rattle.std.specs.Prelude.{codes}
use Rattle.std.specs.Str.{bytes_eq}
use Rattle.sqz_object.specs.Chunk.{fields}
use Rattle.sqz_image.specs.declared.slot.Slot.TheVariants.{Field}
use Rattle.sqz_image.specs.Objects.{Memory, chunk_words}
use Rattle.sqz_trace.specs.declared.weak.Weak.{Weak}
use Rattle.sqz_trace.specs.Slots.{traced}
use Rattle.sqz_trace.specs.Targets.{target}
use Rattle.sqz_trace.proofs.SlotLemmas.{traced_inside}
use Rattle.sqz_trace.proofs.TargetLemmas.{named_among-cases}
use Rattle.sqz_names.specs.ByteTexts.{whole_name}
use Rattle.sqz_names.specs.declared.method_name.MethodName.{MethodName}
use Rattle.sqz_names.specs.Fields.{first_selector_field, method_dictionary_field, methods_field}
use Rattle.sqz_names.specs.Structures.{HasText, IsMethodIn}
use Rattle.sqz_names.specs.Names.{AreMethodsNamed, IsMethodName, IsMethodUnder, IsMethodNamed, ListsMethod, ListsMethodsOf}
use Rattle.sqz_names.specs.NameLists.{ListsDictionaries, ListsDictionary}
use Rattle.sqz_names.proofs.ClassLemmas.{is_marked-none}
use Rattle.sqz_trace.proofs.MarkingLemmas.{is_marked-more}

-- what holds of the numbers below one and of itself holds of those below the next
pub below-more : (P : ℕ → Type 0) (n : ℕ) → ((x : ℕ) → x < n → P x) → P n → (x : ℕ) → x < n + 1 → P x
below-more P n below here x lt =
    elim (cases_lt x n) [
      | inl before ↦ below x before
      | inr after ↦ let same : n ≡ x = omega (arith, lt, after) in subst P same here
    ]

-- ---- lists of methods

-- what a list has, a list with all its items has too
pub ListsMethod-keeps : (old new : List MethodName) → ((name : MethodName) → Contains old name → Contains new name)
    → (selector method : ℕ) → ListsMethod old selector method → ListsMethod new selector method
ListsMethod-keeps old new keeps selector method is = record { class = is.class; has = keeps _ is.has }

module _ (memory : Memory) where
  pub ListsDictionaries-none : (count : ℕ) (names : List MethodName) → ListsDictionaries memory (replicate count false) names
  ListsDictionaries-none count names dictionary marked =
      absurd (true≢false (sym marked ∙ is_marked-none count dictionary))

  pub ListsDictionaries-keeps : (dictionaries : List Bool) (old new : List MethodName)
      → ((name : MethodName) → Contains old name → Contains new name) → ListsDictionaries memory dictionaries old
      → ListsDictionaries memory dictionaries new
  ListsDictionaries-keeps dictionaries old new keeps are dictionary marked selector method is =
      ∥∥₁_map (are dictionary marked selector method is) (ListsMethod-keeps old new keeps selector method)

  -- one dictionary more
  pub ListsDictionaries-more : (dictionaries : List Bool) (names : List MethodName) (dictionary : ℕ)
      → ListsDictionaries memory dictionaries names → ListsDictionary memory dictionary names
      → ListsDictionaries memory (set dictionaries dictionary true) names
  ListsDictionaries-more dictionaries names dictionary are its =
      is_marked-more (λ (it : ℕ). ListsDictionary memory it names) dictionaries dictionary are its

  -- the methods of a class are those of its dictionary
  pub ListsMethodsOf-dictionary : (names : List MethodName) (class dictionary : ℕ)
      → target memory class (Field method_dictionary_field) ≡ Some dictionary → ListsDictionary memory dictionary names
      → ListsMethodsOf memory names class
  ListsMethodsOf-dictionary names class dictionary its are selector method is =
      ∥∥₁_elim is ∥∥₁_prop (λ has.
      are selector method
      (subst (λ (it : ℕ). IsMethodIn memory it selector method) (same_Some _ _ (sym has.has_dictionary ∙ its)) has.is_in))

  -- a class without a dictionary has no methods
  pub ListsMethodsOf-none : (names : List MethodName) (class : ℕ) → target memory class (Field method_dictionary_field) ≡ None
      → ListsMethodsOf memory names class
  ListsMethodsOf-none names class lacks selector method is =
      ∥∥₁_map is (λ has. absurd (none-some has.dictionary (sym lacks ∙ has.has_dictionary)))

  pub ListsMethodsOf-keeps : (old new : List MethodName) → ((name : MethodName) → Contains old name → Contains new name)
      → (class : ℕ) → ListsMethodsOf memory old class → ListsMethodsOf memory new class
  ListsMethodsOf-keeps old new keeps class are selector method is =
      ∥∥₁_map (are selector method is) (ListsMethod-keeps old new keeps selector method)

-- ---- the methods of a dictionary, field by field

module _ (memory : Memory) (dictionary : ℕ) where
  -- a list has the methods whose selectors are in fields below this one
  abbrev pub ListsBelow : ℕ → List MethodName → Type 0
  ListsBelow field names =
      (selector method : ℕ) (is : IsMethodIn memory dictionary selector method) → first_selector_field + is.place < field
      → ∥ ListsMethod names selector method ∥₁

  module _ (selector method field : ℕ) (is : IsMethodIn memory dictionary selector method)
      (at : first_selector_field + is.place ≡ field) where
    -- the fields that have the selector and the method
    pub IsMethodIn-selector : target memory dictionary (Field field) ≡ Some selector
    IsMethodIn-selector = ap (λ (it : ℕ). target memory dictionary (Field it)) (sym at) ∙ is.has_selector

    pub IsMethodIn-method : (methods : ℕ) → target memory dictionary (Field methods_field) ≡ Some methods
        → target memory methods (Field (field - first_selector_field)) ≡ Some method
    IsMethodIn-method methods its =
        let place : field - first_selector_field ≡ is.place = omega (arith, at) in
        let same : methods ≡ is.methods = same_Some _ _ (sym its ∙ is.has_methods) in
        ap (λ (it : ℕ). target memory methods (Field it)) place
        ∙ ap (λ (it : ℕ). target memory it (Field is.place)) same ∙ is.has_method

  module _ (field : ℕ) (names : List MethodName) (are : ListsBelow field names) where
    -- one field more, which has no selector of a method
    pub ListsBelow-skip : ((selector method : ℕ) (is : IsMethodIn memory dictionary selector method)
        → first_selector_field + is.place ≡ field → ⊥) → ListsBelow (field + 1) names
    ListsBelow-skip never selector method is lt =
        elim (cases_lt (first_selector_field + is.place) field) [
          | inl below ↦ are selector method is below
          | inr above ↦ absurd (never selector method is (omega (arith, lt, above)))
        ]

    -- one field more, which has the selector of a method that is listed
    pub ListsBelow-push : (name : MethodName) → ((selector method : ℕ) (is : IsMethodIn memory dictionary selector method)
        → first_selector_field + is.place ≡ field → (name.selector ≡ selector) × (name.method ≡ method))
        → ListsBelow (field + 1) (names ++ name ∷ [])
    ListsBelow-push name only selector method is lt =
        elim (cases_lt (first_selector_field + is.place) field) [
          | inl below ↦
              ∥∥₁_map (are selector method is below)
              (ListsMethod-keeps names (names ++ name ∷ []) (Contains-append_left names (name ∷ [])) selector method)
          | inr above ↦
              let same = only selector method is (omega (arith, lt, above)) in
              ∣ subst (λ (it : ℕ). ListsMethod (names ++ name ∷ []) selector it) same.1
              (subst (λ (it : ℕ). ListsMethod (names ++ name ∷ []) it name.method) same.0
              (record { class = name.class; has = Contains-push names name })) ∣₁
        ]

  -- all fields
  pub ListsDictionary-all : (field : ℕ) (names : List MethodName) → length (fields (chunk_words memory dictionary)) ≤ field
      → ListsBelow field names → ListsDictionary memory dictionary names
  ListsDictionary-all field names end are selector method is =
      let chunk = chunk_words memory dictionary in
      let held = named_among-cases memory chunk (traced chunk) (first_selector_field + is.place) selector is.has_selector in
      are selector method is (omega (arith, held.0, traced_inside chunk, end))

-- ---- methods with a name

-- a text is split in one way, given the length of the first part
same_parts : (between xs ys zs ws : List ℕ) → length xs ≡ length zs → xs ++ (between ++ ys) ≡ zs ++ (between ++ ws)
    → (xs ≡ zs) × (ys ≡ ws)
same_parts between xs ys zs ws same all =
    let firsts : xs ≡ zs =
    sym (take_at xs (between ++ ys) (length xs) refl) ∙ ap (take (length xs)) all ∙ take_at zs (between ++ ws) (length xs) (sym same) in
    let rests = all ∙ ap (λ (front : List ℕ). front ++ (between ++ ws)) (sym firsts) in
    (firsts, append_cancel_left between ys ws (append_cancel_left xs (between ++ ys) (between ++ ws) rests))

module _ (memory : Memory) (weak : Weak) where
  -- a method of a class with this name under this selector
  pub IsMethodUnder-listed : (class_text selector_text : List ℕ) (name : MethodName) → IsMethodName memory weak name
      → bytes_eq (whole_name memory weak name.class) class_text ≡ true → HasText memory selector_text name.selector
      → IsMethodUnder memory weak class_text selector_text name.method
  IsMethodUnder-listed class_text selector_text name is of_class spelled = record {
    class = name.class;
    selector = name.selector;
    of_class = record {
      inside = is.class_inside;
      is_class = is.of_class;
      named = (bytes_eq-Decides (whole_name memory weak name.class) class_text).0 of_class;
    };
    spelled = spelled;
    is = is.is;
  }

  -- a name without `>>` is that of no method
  pub AreMethodsNamed-none : (name : List ℕ)
      → ((before after : List ℕ) → name ≡ before ++ (codes ">>" ++ after) → ⊥)
      → (count : ℕ) → AreMethodsNamed memory weak name (replicate count false)
  AreMethodsNamed-none name never count = record {
    sound = λ method marked. absurd (true≢false (sym marked ∙ is_marked-none count method));
    complete = λ method is. absurd (never is.class_text is.selector_text is.split);
  }

  -- the methods with a name are those under the parts of the name at the first `>>`
  module _ (name class_text selector_text : List ℕ) (split : name ≡ class_text ++ (codes ">>" ++ selector_text))
      (is_first : (before after : List ℕ) → name ≡ before ++ (codes ">>" ++ after) → length class_text ≤ length before) where
    pub IsMethodNamed-under : (method : ℕ) → IsMethodUnder memory weak class_text selector_text method
        → IsMethodNamed memory weak name method
    IsMethodNamed-under method is = record {
      class_text = class_text;
      selector_text = selector_text;
      split = split;
      is_first = is_first;
      is = is;
    }

    pub IsMethodUnder-named : (method : ℕ) → IsMethodNamed memory weak name method
        → IsMethodUnder memory weak class_text selector_text method
    IsMethodUnder-named method is =
        let low = is_first is.class_text is.selector_text is.split in
        let high = is.is_first class_text selector_text split in
        let parts = same_parts (codes ">>") class_text selector_text is.class_text is.selector_text
        (omega (arith, low, high)) (sym split ∙ is.split) in
        subst (λ (it : List ℕ). IsMethodUnder memory weak class_text it method) (sym parts.1)
        (subst (λ (it : List ℕ). IsMethodUnder memory weak it is.selector_text method) (sym parts.0) is.is)
