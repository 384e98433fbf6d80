-- The order of the methods of dictionaries and of classes.
-- Serves `methods` and `names::Names::methods_of_marked`.
use Rattle.std.proofs.Common.{◌≡◌, ◌∙◌, ℕ, zero, suc, ◌+◌, ◌-◌, ◌<◌, ◌≤◌, Bool, true, false, List, [], ◌∷◌, ◌++◌, length, set}
use Rattle.std.proofs.Common.{Option, Some, None, refl, sym, ap, subst, append_assoc, append-nil, map-id, arith}
use Rattle.std.specs.Prelude.{◌==◌, ◌&&◌, ◌||◌, if◌then◌else◌, filter_map}
use Rattle.std.specs.Bool.{then_some}
use Rattle.std.specs.List.{cons_option, range_with_len}
use Rattle.std.proofs.lemmas.Bool.{eqb-false, eqb-true}
use Rattle.std.proofs.lemmas.List.{get_or-set_other}
use Rattle.std.proofs.lemmas.List.FromFn.{map-range_with_len_more}
use Rattle.sqz_object.specs.Chunk.{fields}
use Rattle.sqz_image.specs.declared.slot.Slot.TheVariants.{Field}
use Rattle.sqz_image.specs.Objects.{Memory, chunk_words, object_count}
use Rattle.sqz_trace.specs.declared.weak.Weak.{Weak}
use Rattle.sqz_trace.specs.Graph.{is_marked}
use Rattle.sqz_trace.specs.Targets.{target}
use Rattle.sqz_trace.proofs.MarkingLemmas.{is_marked-added}
use Rattle.sqz_names.specs.declared.method_name.MethodName.{MethodName}
use Rattle.sqz_names.specs.Fields.{method_dictionary_field, methods_field}
use Rattle.sqz_names.specs.MethodOrder.{has_dictionary, is_listed_before, is_object, method_named, method_under, methods_among, methods_by_class, methods_in, new_methods, new_methods_in}
use Rattle.sqz_names.specs.Structures.{is_bytes, is_method, AreClasses}

-- ---- tests

or-false : (test : Bool) → test || false ≡ test
or-false true = refl
or-false false = refl

or-true : (test : Bool) → test || true ≡ true
or-true true = refl
or-true false = refl

and-false : (test : Bool) → test && false ≡ false
and-false true = refl
and-false false = refl

pub both : {a b : Bool} → a ≡ true → b ≡ true → a && b ≡ true
both {a} {b} is also = ap (λ (it : Bool). it && b) is ∙ also

pub first-fails : {a : Bool} (b : Bool) → a ≡ false → a && b ≡ false
first-fails b is = ap (λ (it : Bool). it && b) is

pub second-fails : (a : Bool) {b : Bool} → b ≡ false → a && b ≡ false
second-fails a is = ap (λ (it : Bool). a && it) is ∙ and-false a

-- two tests that hold of each other are the same
same_tests : (a b : Bool) → (a ≡ true → b ≡ true) → (b ≡ true → a ≡ true) → a ≡ b
same_tests true b there back = sym (there refl)
same_tests false true there back = back refl
same_tests false false there back = refl

-- ---- items that a function gives

filter_map-append : {X Y : Type 0} (f : X → Option Y) (xs ys : List X) → filter_map f (xs ++ ys) ≡ filter_map f xs ++ filter_map f ys
filter_map-append f [] ys = refl
filter_map-append f (x ∷ xs) ys = ap (cons_option (f x)) (filter_map-append f xs ys) ∙ cons_option-append (f x) (filter_map f xs) (filter_map f ys)
  where
    cons_option-append : {Y : Type 0} (item : Option Y) (xs ys : List Y) → cons_option item (xs ++ ys) ≡ cons_option item xs ++ ys
    cons_option-append None xs ys = refl
    cons_option-append (Some item) xs ys = refl

range_with_len_more : (first count : ℕ) → range_with_len first (count + 1) ≡ range_with_len first count ++ (first + count) ∷ []
range_with_len_more first count =
    sym (map-id (range_with_len first (count + 1)))
    ∙ map-range_with_len_more (λ (x : ℕ). x) first count (first + count) refl
    ∙ ap (λ (it : List ℕ). it ++ (first + count) ∷ []) (map-id (range_with_len first count))

-- ---- the methods of a dictionary

module _ (memory : Memory) (class dictionary : ℕ) where
  pub methods_in-none : (names : List MethodName) → target memory dictionary (Field methods_field) ≡ None
      → names ≡ names ++ methods_in memory class dictionary
  methods_in-none names lacks =
      sym (append-nil names)
      ∙ ap (λ (it : List MethodName). names ++ it) (sym (ap (methods_among memory class dictionary) lacks))

  module _ (methods : ℕ) where
    -- the methods under the selectors in the fields below this one
    abbrev pub methods_below : ℕ → List MethodName
    methods_below field = filter_map (method_under memory class dictionary methods) (range_with_len 2 (field - 2))

    pub methods_in-below : (names listed : List MethodName) (field : ℕ) → target memory dictionary (Field methods_field) ≡ Some methods
        → field - 2 ≡ length (fields (chunk_words memory dictionary)) - 2
        → listed ≡ names ++ methods_below field → listed ≡ names ++ methods_in memory class dictionary
    methods_in-below names listed field has end is =
        is ∙ ap (λ (it : List MethodName). names ++ it)
        (ap (λ (it : ℕ). filter_map (method_under memory class dictionary methods) (range_with_len 2 it)) end
        ∙ sym (ap (methods_among memory class dictionary) has))

    module _ (field : ℕ) (from : 2 ≤ field) (names listed : List MethodName) (is : listed ≡ names ++ methods_below field) where
      below_more : methods_below (field + 1) ≡ methods_below field ++ cons_option (method_under memory class dictionary methods field) []
      below_more =
          let next : (field + 1) - 2 ≡ (field - 2) + 1 = omega (arith, from) in
          let last : 2 + (field - 2) ≡ field = omega (arith, from) in
          ap (λ (it : ℕ). filter_map (method_under memory class dictionary methods) (range_with_len 2 it)) next
          ∙ ap (filter_map (method_under memory class dictionary methods)) (range_with_len_more 2 (field - 2))
          ∙ filter_map-append (method_under memory class dictionary methods) (range_with_len 2 (field - 2)) ((2 + (field - 2)) ∷ [])
          ∙ ap (λ (it : ℕ). methods_below field ++ cons_option (method_under memory class dictionary methods it) []) last

      pub methods_below-skip : method_under memory class dictionary methods field ≡ None → listed ≡ names ++ methods_below (field + 1)
      methods_below-skip lacks =
          is ∙ ap (λ (it : List MethodName). names ++ it)
          (sym (append-nil (methods_below field))
          ∙ sym (below_more ∙ ap (λ (it : Option MethodName). methods_below field ++ cons_option it []) lacks))

      pub methods_below-push : (name : MethodName) → method_under memory class dictionary methods field ≡ Some name
          → listed ++ name ∷ [] ≡ names ++ methods_below (field + 1)
      methods_below-push name has =
          ap (λ (it : List MethodName). it ++ name ∷ []) is
          ∙ append_assoc names (methods_below field) (name ∷ [])
          ∙ ap (λ (it : List MethodName). names ++ it)
          (sym (below_more ∙ ap (λ (it : Option MethodName). methods_below field ++ cons_option it []) has))

    module _ (field : ℕ) where
      pub method_under-none : target memory dictionary (Field field) ≡ None → method_under memory class dictionary methods field ≡ None
      method_under-none lacks = ap (λ (it : Option ℕ). method_named memory class it (target memory methods (Field (field - 2)))) lacks

      module _ (selector : ℕ) (has : Some selector ≡ target memory dictionary (Field field)) where
        method_under-selector : method_under memory class dictionary methods field ≡ method_named memory class (Some selector) (target memory methods (Field (field - 2)))
        method_under-selector = ap (λ (it : Option ℕ). method_named memory class it (target memory methods (Field (field - 2)))) (sym has)

        pub method_under-unnamed : target memory methods (Field (field - 2)) ≡ None → method_under memory class dictionary methods field ≡ None
        method_under-unnamed lacks = method_under-selector ∙ ap (method_named memory class (Some selector)) lacks

        module _ (method : ℕ) (names : Some method ≡ target memory methods (Field (field - 2))) where
          name : MethodName
          name = record { method = method; class = class; selector = selector }

          method_under-by : (text compiled : Bool) → is_bytes memory selector ≡ text → is_method memory method ≡ compiled
              → method_under memory class dictionary methods field ≡ then_some (text && compiled) (record { method = method; class = class; selector = selector })
          unfolding name
          method_under-by text compiled is_text is_compiled =
              method_under-selector ∙ ap (method_named memory class (Some selector)) (sym names)
              ∙ ap (λ (it : Bool). then_some (it && is_method memory method) name) is_text
              ∙ ap (λ (it : Bool). then_some (text && it) name) is_compiled

          pub method_under-some : is_bytes memory selector ≡ true → is_method memory method ≡ true
              → method_under memory class dictionary methods field ≡ Some (record { method = method; class = class; selector = selector })
          method_under-some = method_under-by true true

          pub method_under-untexted : is_bytes memory selector ≡ false → method_under memory class dictionary methods field ≡ None
          method_under-untexted is = method_under-by false (is_method memory method) is refl

          pub method_under-uncompiled : is_method memory method ≡ false → method_under memory class dictionary methods field ≡ None
          unfolding name
          method_under-uncompiled is =
              method_under-by (is_bytes memory selector) false refl is
              ∙ ap (λ (it : Bool). then_some it name) (and-false (is_bytes memory selector))

-- ---- the methods of a class more

module _ (memory : Memory) (class : ℕ) (dictionaries : List Bool) (names : List MethodName) where
  module _ (lacks : target memory class (Field method_dictionary_field) ≡ None) where
    pub new_methods-none : names ≡ names ++ new_methods memory (is_marked dictionaries) class
    new_methods-none =
        sym (append-nil names)
        ∙ ap (λ (it : List MethodName). names ++ it) (sym (ap (new_methods_in memory (is_marked dictionaries) class) lacks))

    pub has_dictionary-none : (dictionary : ℕ)
        → is_marked dictionaries dictionary ≡ is_marked dictionaries dictionary || has_dictionary memory dictionary class
    has_dictionary-none dictionary =
        sym (or-false (is_marked dictionaries dictionary))
        ∙ ap (λ (it : Bool). is_marked dictionaries dictionary || it) (sym (ap (is_object dictionary) lacks))

  module _ (its : ℕ) (has : Some its ≡ target memory class (Field method_dictionary_field)) where
    new_methods-by : (test : Bool) → is_marked dictionaries its ≡ test
        → new_methods memory (is_marked dictionaries) class ≡ if test then [] else methods_in memory class its
    new_methods-by test is =
        ap (new_methods_in memory (is_marked dictionaries) class) (sym has)
        ∙ ap (λ (it : Bool). if it then [] else methods_in memory class its) is

    pub new_methods-listed : is_marked dictionaries its ≡ true → names ≡ names ++ new_methods memory (is_marked dictionaries) class
    new_methods-listed is = sym (append-nil names) ∙ ap (λ (it : List MethodName). names ++ it) (sym (new_methods-by true is))

    pub new_methods-new : (new : List MethodName) → is_marked dictionaries its ≡ false → new ≡ names ++ methods_in memory class its
        → new ≡ names ++ new_methods memory (is_marked dictionaries) class
    new_methods-new new is added = added ∙ ap (λ (it : List MethodName). names ++ it) (sym (new_methods-by false is))

    has_dictionary-is : (dictionary : ℕ) → has_dictionary memory dictionary class ≡ (its == dictionary)
    has_dictionary-is dictionary = ap (is_object dictionary) (sym has)

    pub has_dictionary-listed : is_marked dictionaries its ≡ true → (dictionary : ℕ)
        → is_marked dictionaries dictionary ≡ is_marked dictionaries dictionary || has_dictionary memory dictionary class
    has_dictionary-listed is dictionary =
        same_listed (its == dictionary) refl ∙ ap (λ (it : Bool). is_marked dictionaries dictionary || it) (sym (has_dictionary-is dictionary))
      where
        same_listed : (test : Bool) → (its == dictionary) ≡ test
            → is_marked dictionaries dictionary ≡ is_marked dictionaries dictionary || test
        same_listed true same =
            let marked : is_marked dictionaries dictionary ≡ true =
            subst (λ (it : ℕ). is_marked dictionaries it ≡ true) (eqb-true its dictionary same) is in
            marked ∙ sym (or-true (is_marked dictionaries dictionary))
        same_listed false other = sym (or-false (is_marked dictionaries dictionary))

    pub has_dictionary-new : its < length dictionaries → (dictionary : ℕ)
        → is_marked (set dictionaries its true) dictionary ≡ is_marked dictionaries dictionary || has_dictionary memory dictionary class
    has_dictionary-new inside dictionary =
        same_new (its == dictionary) refl ∙ ap (λ (it : Bool). is_marked dictionaries dictionary || it) (sym (has_dictionary-is dictionary))
      where
        same_new : (test : Bool) → (its == dictionary) ≡ test
            → is_marked (set dictionaries its true) dictionary ≡ is_marked dictionaries dictionary || test
        same_new true same =
            subst (λ (it : ℕ). is_marked (set dictionaries its true) it ≡ true) (eqb-true its dictionary same)
            (is_marked-added dictionaries its inside)
            ∙ sym (or-true (is_marked dictionaries dictionary))
        same_new false other =
            get_or-set_other dictionaries its dictionary true false (λ same. eqb-false its dictionary other (sym same))
            ∙ sym (or-false (is_marked dictionaries dictionary))

-- ---- the methods of the classes

module _ (memory : Memory) where
  new_methods-same : (first second : ℕ → Bool) → ((dictionary : ℕ) → first dictionary ≡ second dictionary) → (class : ℕ)
      → new_methods memory first class ≡ new_methods memory second class
  new_methods-same first second same class = by_dictionary (target memory class (Field method_dictionary_field))
    where
      by_dictionary : (its : Option ℕ) → new_methods_in memory first class its ≡ new_methods_in memory second class its
      by_dictionary None = refl
      by_dictionary (Some its) = ap (λ (it : Bool). if it then [] else methods_in memory class its) (same its)

  module _ (test : ℕ → Bool) (class : ℕ) (names : List MethodName) (is : names ≡ methods_by_class memory test class) where
    -- a class more
    pub methods_by_class-add : (dictionaries : List Bool) (new : List MethodName) → test class ≡ true
        → ((dictionary : ℕ) → is_marked dictionaries dictionary ≡ is_listed_before memory test class dictionary)
        → new ≡ names ++ new_methods memory (is_marked dictionaries) class → new ≡ methods_by_class memory test (class + 1)
    methods_by_class-add dictionaries new passes same added =
        let next : class + 1 ≡ suc class = omega arith in
        added
        ∙ ap (λ (it : List MethodName). it ++ new_methods memory (is_marked dictionaries) class) is
        ∙ ap (λ (it : List MethodName). methods_by_class memory test class ++ it)
        (new_methods-same (is_marked dictionaries) (is_listed_before memory test class) same class
        ∙ sym (ap (λ (it : Bool). if it then new_methods memory (is_listed_before memory test class) class else []) passes))
        ∙ sym (ap (methods_by_class memory test) next)

    -- an object that is no such class
    pub methods_by_class-skip : test class ≡ false → names ≡ methods_by_class memory test (class + 1)
    methods_by_class-skip fails =
        let next : class + 1 ≡ suc class = omega arith in
        is ∙ sym (append-nil (methods_by_class memory test class))
        ∙ ap (λ (it : List MethodName). methods_by_class memory test class ++ it)
        (sym (ap (λ (it : Bool). if it then new_methods memory (is_listed_before memory test class) class else []) fails))
        ∙ sym (ap (methods_by_class memory test) next)

  module _ (test : ℕ → Bool) (class : ℕ) (old : List Bool)
      (same : (dictionary : ℕ) → is_marked old dictionary ≡ is_listed_before memory test class dictionary) where
    pub is_listed_before-add : (new : List Bool) → test class ≡ true
        → ((dictionary : ℕ) → is_marked new dictionary ≡ is_marked old dictionary || has_dictionary memory dictionary class)
        → (dictionary : ℕ) → is_marked new dictionary ≡ is_listed_before memory test (class + 1) dictionary
    is_listed_before-add new passes added dictionary =
        let next : class + 1 ≡ suc class = omega arith in
        added dictionary
        ∙ ap (λ (it : Bool). it || has_dictionary memory dictionary class) (same dictionary)
        ∙ sym (ap (λ (it : Bool). is_listed_before memory test class dictionary || (it && has_dictionary memory dictionary class)) passes)
        ∙ sym (ap (λ (it : ℕ). is_listed_before memory test it dictionary) next)

    pub is_listed_before-skip : test class ≡ false → (dictionary : ℕ)
        → is_marked old dictionary ≡ is_listed_before memory test (class + 1) dictionary
    is_listed_before-skip fails dictionary =
        let next : class + 1 ≡ suc class = omega arith in
        same dictionary ∙ sym (or-false (is_listed_before memory test class dictionary))
        ∙ sym (ap (λ (it : Bool). is_listed_before memory test class dictionary || (it && has_dictionary memory dictionary class)) fails)
        ∙ sym (ap (λ (it : ℕ). is_listed_before memory test it dictionary) next)

  -- tests that agree on the objects
  module _ (first second : ℕ → Bool) where
    is_listed_before-same : (count : ℕ) → ((class : ℕ) → class < count → first class ≡ second class) → (dictionary : ℕ)
        → is_listed_before memory first count dictionary ≡ is_listed_before memory second count dictionary
    is_listed_before-same zero same dictionary = refl
    is_listed_before-same (suc count) same dictionary =
        ap (λ (it : Bool). it || (first count && has_dictionary memory dictionary count))
        (is_listed_before-same count (λ class lt. same class (omega (arith, lt))) dictionary)
        ∙ ap (λ (it : Bool). is_listed_before memory second count dictionary || (it && has_dictionary memory dictionary count))
        (same count (omega arith))

    pub methods_by_class-same : (count : ℕ) → ((class : ℕ) → class < count → first class ≡ second class)
        → methods_by_class memory first count ≡ methods_by_class memory second count
    methods_by_class-same zero same = refl
    methods_by_class-same (suc count) same =
        let below : (class : ℕ) → class < count → first class ≡ second class = λ class lt. same class (omega (arith, lt)) in
        ap (λ (it : List MethodName). it ++ (if first count then new_methods memory (is_listed_before memory first count) count else []))
        (methods_by_class-same count below)
        ∙ ap (λ (it : Bool). methods_by_class memory second count
        ++ (if it then new_methods memory (is_listed_before memory first count) count else [])) (same count (omega arith))
        ∙ ap (λ (it : List MethodName). methods_by_class memory second count ++ (if second count then it else []))
        (new_methods-same (is_listed_before memory first count) (is_listed_before memory second count)
        (is_listed_before-same count below) count)

  -- two sets of the classes agree on the objects
  pub AreClasses-same : (weak : Weak) (first second marks : List Bool) → AreClasses memory weak first → AreClasses memory weak second
      → (class : ℕ) → class < object_count memory
      → is_marked first class && is_marked marks class ≡ is_marked second class && is_marked marks class
  AreClasses-same weak first second marks are are' class inside =
      ap (λ (it : Bool). it && is_marked marks class)
      (same_tests (is_marked first class) (is_marked second class)
      (λ is. are'.complete class inside (are.sound class is)) (λ is. are.complete class inside (are'.sound class is)))
