-- The names of instance variables, array by array and class by class.
-- Serves `instance_variables`.
use Rattle.std.proofs.Common.{◌≡◌, ◌∙◌, ℕ, zero, suc, ◌+◌, ◌-◌, ◌<◌, ◌≤◌, List, [], ◌∷◌, ◌++◌, length, take, drop, reverse, get_or}
use Rattle.std.proofs.Common.{Bool, Option, Some, None, refl, sym, ap, append_assoc, append-nil, arith}
use Rattle.std.specs.Prelude.{◌^◌, min, if◌then◌else◌, true, false, option_map, option_and_then, flat_map, map}
use Rattle.std.specs.List.{cons_option, range_with_len}
use Rattle.std.specs.Bool.{then_some}
use Rattle.std.proofs.lemmas.Bool.{ne_eqb}
use Rattle.std.proofs.lemmas.List.{take_all, take_more, take-append-drop}
use Rattle.std.proofs.lemmas.List.Concat.{flat_map-append, length-flat_map}
use Rattle.std.proofs.lemmas.List.FromFn.{get_or-map-range_with_len, length-map-range_with_len, map-range_with_len_more}
use Rattle.std.proofs.lemmas.List.Sorted.{IsPermutation-reverse, sum_by-IsPermutation}
use Rattle.std.proofs.lemmas.List.Sums.{sum_by-append, sum_by_push}
use Rattle.std.proofs.lemmas.Option.{none-some, same_Some}
use Rattle.sqz_object.specs.Chunk.{fields}
use Rattle.sqz_image.specs.declared.slot.Slot.TheVariants.{Field}
use Rattle.sqz_image.specs.Objects.{Memory, chunk_words}
use Rattle.sqz_trace.specs.Strong.{fixed_by}
use Rattle.sqz_trace.specs.Targets.{target}
use Rattle.sqz_names.specs.Fields.{superclass_field, instance_variables_field}
use Rattle.sqz_names.specs.InstanceVariables.{all_some, arrays_of, as_many, classes_from, instance_variables, name_arrays, name_count}
use Rattle.sqz_names.specs.InstanceVariables.{name_in, names_in, stated_names, text_object}
use Rattle.sqz_names.specs.Structures.{is_bytes}

-- ---- items that are all there

-- the items of two lists, if all of both are there
joined : Option (List ℕ) → Option (List ℕ) → Option (List ℕ)
joined None others = None
joined (Some items) others = option_map (λ its. items ++ its) others

joined-nil : (others : Option (List ℕ)) → others ≡ option_map (λ its. [] ++ its) others
joined-nil None = refl
joined-nil (Some others) = refl

joined-cons : (item : ℕ) (first second : Option (List ℕ))
    → option_map (λ others. item ∷ others) (joined first second) ≡ joined (option_map (λ others. item ∷ others) first) second
unfolding joined
joined-cons item None second = refl
joined-cons item (Some first) None = refl
joined-cons item (Some first) (Some second) = refl

all_some-append : (xs ys : List (Option ℕ)) → all_some (xs ++ ys) ≡ joined (all_some xs) (all_some ys)
unfolding joined
all_some-append [] ys = joined-nil (all_some ys)
all_some-append (None ∷ xs) ys = refl
all_some-append (Some x ∷ xs) ys =
    ap (option_map (λ (others : List ℕ). x ∷ others)) (all_some-append xs ys) ∙ joined-cons x (all_some xs) (all_some ys)

-- one item is not there
all_some-none : (xs : List (Option ℕ)) (k : ℕ) (d : Option ℕ) → k < length xs → get_or xs k d ≡ None → all_some xs ≡ None
all_some-none [] k d lt e = absurd (omega (arith, lt))
all_some-none (None ∷ xs) k d lt e = refl
all_some-none (Some x ∷ xs) zero d lt e = absurd (none-some x (sym e))
all_some-none (Some x ∷ xs) (suc k) d lt e =
    ap (option_map (λ (others : List ℕ). x ∷ others)) (all_some-none xs k d (omega (arith, lt)) e)

length-cons : (x count : ℕ) (rest : Option (List ℕ)) → ((others : List ℕ) → rest ≡ Some others → length others ≡ count)
    → (items : List ℕ) → option_map (λ others. x ∷ others) rest ≡ Some items → length items ≡ suc count
length-cons x count None its items e = absurd (none-some items e)
length-cons x count (Some others) its items e = sym (ap length (same_Some (x ∷ others) items e)) ∙ ap suc (its others refl)

length-all_some : (xs : List (Option ℕ)) (items : List ℕ) → all_some xs ≡ Some items → length items ≡ length xs
length-all_some [] items e = sym (ap length (same_Some [] items e))
length-all_some (None ∷ xs) items e = absurd (none-some items e)
length-all_some (Some x ∷ xs) items e = length-cons x (length xs) (all_some xs) (length-all_some xs) items e

-- ---- the elements of an array

joined-push : (old items : List ℕ) (name : ℕ) (first : Option (List ℕ)) → Some items ≡ option_map (λ its. old ++ its) first
    → Some (items ++ name ∷ []) ≡ option_map (λ its. old ++ its) (joined first (Some (name ∷ [])))
unfolding joined
joined-push old items name None e = absurd (none-some items (sym e))
joined-push old items name (Some its) e =
    ap (λ (it : List ℕ). Some (it ++ name ∷ [])) (same_Some items (old ++ its) e)
    ∙ ap (λ (it : List ℕ). Some it) (append_assoc old its (name ∷ []))

module _ (memory : Memory) (array : ℕ) where
  -- the names in the fields below this one
  abbrev pub names_below : ℕ → List (Option ℕ)
  names_below field = map (name_in memory array) (range_with_len 0 field)

  all_some-below_more : (field : ℕ) → all_some (names_below (field + 1)) ≡ joined (all_some (names_below field)) (all_some (name_in memory array field ∷ []))
  all_some-below_more field =
      ap all_some (map-range_with_len_more (name_in memory array) 0 field field (omega arith))
      ∙ all_some-append (names_below field) (name_in memory array field ∷ [])

  module _ (field name : ℕ) (found : Some name ≡ target memory array (Field field)) where
    pub name_in-text : is_bytes memory name ≡ true → name_in memory array field ≡ Some name
    name_in-text is =
        ap (text_object memory) (sym found) ∙ ap (λ (test : Bool). if test then Some name else None) is

    pub name_in-other : is_bytes memory name ≡ false → name_in memory array field ≡ None
    name_in-other is =
        ap (text_object memory) (sym found) ∙ ap (λ (test : Bool). if test then Some name else None) is

  pub name_in-nothing : (field : ℕ) → target memory array (Field field) ≡ None → name_in memory array field ≡ None
  name_in-nothing field lacks = ap (text_object memory) lacks

  -- one field more, which has a name
  pub names_below-push : (old items : List ℕ) (field name : ℕ) → name_in memory array field ≡ Some name
      → Some items ≡ option_map (λ its. old ++ its) (all_some (names_below field))
      → Some (items ++ name ∷ []) ≡ option_map (λ its. old ++ its) (all_some (names_below (field + 1)))
  names_below-push old items field name is so_far =
      joined-push old items name (all_some (names_below field)) so_far
      ∙ sym (ap (option_map (λ (its : List ℕ). old ++ its))
      (all_some-below_more field ∙ ap (λ (it : Option ℕ). joined (all_some (names_below field)) (all_some (it ∷ []))) is))

  -- a field has no name
  pub names_in-none : (old : List ℕ) (field : ℕ) → field < length (fields (chunk_words memory array))
      → name_in memory array field ≡ None → None ≡ option_map (λ its. old ++ its) (all_some (names_in memory array))
  names_in-none old field inside lacks =
      let count = length (fields (chunk_words memory array)) in
      let long : field < length (names_in memory array) =
      omega (arith, inside, length-map-range_with_len (name_in memory array) 0 count) in
      let none : get_or (names_in memory array) field None ≡ None =
      get_or-map-range_with_len (name_in memory array) 0 count field field None inside (omega arith) ∙ lacks in
      sym (ap (option_map (λ (its : List ℕ). old ++ its)) (all_some-none (names_in memory array) field None long none))

-- ---- the arrays, one after the other

flat_map_more : (f : ℕ → List (Option ℕ)) (xs : List ℕ) (k : ℕ) → k < length xs
    → flat_map f (take (k + 1) xs) ≡ flat_map f (take k xs) ++ f (get_or xs k 0)
flat_map_more f xs k inside =
    ap (flat_map f) (take_more xs k 0 inside) ∙ flat_map-append f (take k xs) (get_or xs k 0 ∷ [])
    ∙ ap (λ (it : List (Option ℕ)). flat_map f (take k xs) ++ it) (append-nil (f (get_or xs k 0)))

module _ (memory : Memory) (arrays : List ℕ) where
  -- the names of the first arrays
  abbrev pub names_of : ℕ → Option (List ℕ)
  names_of count = all_some (flat_map (names_in memory) (take count arrays))

  -- one array more
  pub names_of-more : (old : List ℕ) (k : ℕ) → k < length arrays → Some old ≡ names_of k
      → option_map (λ its. old ++ its) (all_some (names_in memory (get_or arrays k 0))) ≡ names_of (k + 1)
  unfolding joined
  names_of-more old k inside so_far =
      ap (λ (it : Option (List ℕ)). joined it (all_some (names_in memory (get_or arrays k 0)))) so_far
      ∙ sym (ap all_some (flat_map_more (names_in memory) arrays k inside)
      ∙ all_some-append (flat_map (names_in memory) (take k arrays)) (names_in memory (get_or arrays k 0)))

  -- a name of the first arrays is not there
  pub names_of-none : (count : ℕ) → None ≡ names_of count → None ≡ all_some (flat_map (names_in memory) arrays)
  unfolding joined
  names_of-none count none =
      ap (λ (it : Option (List ℕ)). joined it (all_some (flat_map (names_in memory) (drop count arrays)))) none
      ∙ sym (ap all_some (ap (flat_map (names_in memory)) (sym (take-append-drop count arrays))
      ∙ flat_map-append (names_in memory) (take count arrays) (drop count arrays))
      ∙ all_some-append (flat_map (names_in memory) (take count arrays)) (flat_map (names_in memory) (drop count arrays)))

  -- all arrays
  pub names_of-all : (count : ℕ) → length arrays ≤ count → names_of count ≡ all_some (flat_map (names_in memory) arrays)
  names_of-all count all = ap (λ (it : List ℕ). all_some (flat_map (names_in memory) it)) (take_all count arrays all)

  pub all_some-arrays : (others : List ℕ) → arrays ≡ others
      → all_some (flat_map (names_in memory) arrays) ≡ all_some (flat_map (names_in memory) others)
  all_some-arrays others same = ap (λ (it : List ℕ). all_some (flat_map (names_in memory) it)) same

-- ---- the classes, from one up

module _ (memory : Memory) where
  abbrev pub arrays_from : ℕ → Option ℕ → List ℕ
  arrays_from left next = arrays_of memory (classes_from memory left next)

  pub arrays_from-end : (left : ℕ) → arrays_from left None ≡ []
  arrays_from-end zero = refl
  arrays_from-end (suc left) = refl

  arrays_from-class : (left more class : ℕ) → left ≡ suc more
      → arrays_from left (Some class)
      ≡ cons_option (target memory class (Field instance_variables_field)) (arrays_from more (target memory class (Field superclass_field)))
  arrays_from-class left more class is = ap (λ (it : ℕ). arrays_from it (Some class)) is

  -- these arrays were added, with at least `count` names, and those of at most `left` classes from
  -- `next` up follow
  pub record HasAdded (all arrays : List ℕ) (count left : ℕ) (next : Option ℕ) : Type 0 where
    pub arrays_are : arrays ++ arrays_from left next ≡ all
    pub at_least : count ≤ name_count memory arrays

  module _ (all arrays : List ℕ) (count left more class : ℕ) (is : left ≡ suc more)
      (so_far : HasAdded all arrays count left (Some class)) where
    rest : List ℕ
    rest = arrays_from more (target memory class (Field superclass_field))

    -- one class more, which adds the names of an array
    pub HasAdded-push : (array size total : ℕ) → Some array ≡ target memory class (Field instance_variables_field)
        → size ≡ length (fields (chunk_words memory array)) → total ≡ min (count + size) (2 ^ 32 - 1)
        → HasAdded all (arrays ++ array ∷ []) total more (target memory class (Field superclass_field))
    unfolding rest
    HasAdded-push array size total its sized totals =
        let names : ℕ → ℕ = λ array. length (names_in memory array) in
        let pushed : name_count memory (arrays ++ array ∷ []) ≡ name_count memory arrays + length (names_in memory array) =
        sum_by_push names arrays array in
        let one_each : length (names_in memory array) ≡ length (fields (chunk_words memory array)) =
        length-map-range_with_len (name_in memory array) 0 (length (fields (chunk_words memory array))) in
        record {
          arrays_are =
              append_assoc arrays (array ∷ []) rest
              ∙ ap (λ (it : List ℕ). arrays ++ it)
              (ap (λ (it : Option ℕ). cons_option it rest) its ∙ sym (arrays_from-class left more class is))
              ∙ so_far.arrays_are;
          at_least = omega (arith, so_far.at_least, pushed, one_each, sized, totals);
        }

    -- one class more, which adds none
    pub HasAdded-skip : target memory class (Field instance_variables_field) ≡ None
        → HasAdded all arrays count more (target memory class (Field superclass_field))
    unfolding rest
    HasAdded-skip lacks =
        record {
          arrays_are =
              sym (ap (λ (it : List ℕ). arrays ++ it)
              (arrays_from-class left more class is ∙ ap (λ (it : Option ℕ). cons_option it rest) lacks))
              ∙ so_far.arrays_are;
          at_least = so_far.at_least;
        }

  module _ (all arrays : List ℕ) (count left : ℕ) (next : Option ℕ) (so_far : HasAdded all arrays count left next) where
    -- there are more names than this
    pub HasAdded-many : (most : ℕ) → most < count → most < name_count memory all
    HasAdded-many most lt =
        let names : ℕ → ℕ = λ array. length (names_in memory array) in
        let whole : name_count memory all ≡ name_count memory arrays + name_count memory (arrays_from left next) =
        ap (name_count memory) (sym so_far.arrays_are) ∙ sum_by-append names arrays (arrays_from left next) in
        omega (arith, whole, lt, so_far.at_least)

    -- no class follows
    pub HasAdded-all : arrays_from left next ≡ [] → arrays ≡ all
    HasAdded-all none = sym (append-nil arrays) ∙ sym (ap (λ (it : List ℕ). arrays ++ it) none) ∙ so_far.arrays_are

  pub arrays_from-over : (left : ℕ) (next : Option ℕ) → left ≡ 0 → arrays_from left next ≡ []
  arrays_from-over left next is = ap (λ (it : ℕ). arrays_from it next) is

  pub arrays_from-top : (left : ℕ) (next : Option ℕ) → next ≡ None → arrays_from left next ≡ []
  arrays_from-top left next is = ap (arrays_from left) is ∙ arrays_from-end left

  pub HasAdded-none : (class : ℕ) (arrays : List ℕ) → arrays ≡ []
      → HasAdded (name_arrays memory class) arrays 0 100 (Some class)
  unfolding name_arrays
  HasAdded-none class arrays is = record {
    arrays_are = ap (λ (it : List ℕ). it ++ arrays_from 100 (Some class)) is;
    at_least = omega arith;
  }

-- ---- the names of a class

pub option_map-then_some : {V : Type 0} (f : V → List ℕ) (test : Bool) (v : V) → option_map f (then_some test v) ≡ then_some test (f v)
option_map-then_some f true v = refl
option_map-then_some f false v = refl

-- there are more names than this
as_many-none : (fixed : ℕ) (names : List ℕ) → fixed < length names → None ≡ as_many fixed names
as_many-none fixed names lt =
    sym (ap (λ (test : Bool). then_some test names) (ne_eqb (length names) fixed (λ same. omega (arith, lt, same))))

module _ (memory : Memory) (class : ℕ) where
  -- the names are not known if the class states no number of fixed fields
  pub instance_variables-unstated : fixed_by memory (Some class) ≡ None → None ≡ instance_variables memory class
  unfolding instance_variables
  instance_variables-unstated lacks =
      sym (ap (option_and_then (λ (fixed : ℕ). option_and_then (as_many fixed) (stated_names memory class))) lacks)

  module _ (fixed : ℕ) (states : fixed_by memory (Some class) ≡ Some fixed) where
    pub instance_variables-stated : instance_variables memory class ≡ option_and_then (as_many fixed) (stated_names memory class)
    unfolding instance_variables
    instance_variables-stated =
        ap (option_and_then (λ (fixed : ℕ). option_and_then (as_many fixed) (stated_names memory class))) states

    pub instance_variables-by : (names : Option (List ℕ)) → names ≡ all_some (flat_map (names_in memory) (reverse (name_arrays memory class)))
        → option_and_then (as_many fixed) names ≡ instance_variables memory class
    unfolding stated_names
    instance_variables-by names is = ap (option_and_then (as_many fixed)) is ∙ sym instance_variables-stated

    many_names : (names : Option (List ℕ)) → stated_names memory class ≡ names
        → fixed < name_count memory (name_arrays memory class) → None ≡ option_and_then (as_many fixed) names
    unfolding stated_names
    many_names None is lt = refl
    many_names (Some names) is lt =
        let arrays = reverse (name_arrays memory class) in
        let size : ℕ → ℕ = λ array. length (names_in memory array) in
        let long : length names ≡ name_count memory (name_arrays memory class) =
        length-all_some (flat_map (names_in memory) arrays) names is
        ∙ length-flat_map (names_in memory) arrays
        ∙ sum_by-IsPermutation size (name_arrays memory class) arrays (IsPermutation-reverse (name_arrays memory class)) in
        as_many-none fixed names (omega (arith, lt, long))

    -- there are more names than fixed fields
    pub instance_variables-many : fixed < name_count memory (name_arrays memory class) → None ≡ instance_variables memory class
    instance_variables-many lt = many_names (stated_names memory class) refl lt ∙ sym instance_variables-stated
