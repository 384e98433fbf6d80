-- Groups, their keys, and the objects that they have.
-- Serves `ObjectClasses::class_of`, `HistogramLemmas`, `SumLemmas` and `TallyLemmas`; `CensusLemmas` of
-- `sqz_census`.
use Rattle.std.proofs.Common.{◌≡◌, ℕ, zero, suc, ◌+◌, ◌-◌, ◌<◌, ◌≤◌, Bool, true, false, List, [], ◌∷◌}
use Rattle.std.proofs.Common.{filter, length, get_or, Option, Some, None, refl, sym, ap, subst, ◌∙◌, arith, inl, inr}
use Rattle.std.specs.Prelude.{IfSome, option_and_then}
use Rattle.std.proofs.lemmas.Bool.{cases_lt, cases_Bool, lt-ltb, le-ltb, eq-eqb, ne_eqb, eqb-true}
use Rattle.sqz_object.specs.declared.chunk.Kind.{Kind}
use Rattle.sqz_object.specs.declared.chunk.Kind.TheVariants.{Three, Two, Free, Short}
use Rattle.sqz_object.specs.Chunk.{chunk_kind, compact_index}
use Rattle.sqz_image.specs.declared.slot.Slot.{Slot}
use Rattle.sqz_image.specs.declared.slot.Slot.TheVariants.{ClassWord, Field}
use Rattle.sqz_image.specs.Objects.{Memory, Object, objects, object_count, chunk_words}
use Rattle.sqz_image.proofs.ObjectLemmas.{find_in-lt}
use Rattle.sqz_trace.specs.declared.weak.Weak.{Weak}
use Rattle.sqz_trace.specs.Slots.{traced}
use Rattle.sqz_trace.specs.Strong.{strong_by_word, held_by_word, compact_classes, compact_class, class_by, class_of}
use Rattle.sqz_trace.specs.Edges.{strong_target}
use Rattle.sqz_trace.specs.Graph.{is_marked}
use Rattle.sqz_trace.specs.Live.{marked}
use Rattle.sqz_trace.specs.Reachability.{graph_from, IsReachability}
use Rattle.sqz_trace.proofs.EdgeLemmas.{named_among-lt}
use Rattle.sqz_trace.proofs.StrongLemmas.{held_by_word-target}
use Rattle.sqz_trace.proofs.ReachabilityLemmas.{IsClosed-reachable}
use Rattle.sqz_histogram.specs.declared.group.Group.{Group}
use Rattle.sqz_histogram.specs.declared.group.Group.TheVariants.{Class, Compact}
use Rattle.sqz_histogram.specs.Groups.{is_same, group_by, group_of, IsInside, members}
use Rattle.sqz_histogram.specs.Keys.{key_of, group_with}

-- ---- classes are objects

module _ (memory : Memory) (weak : Weak) where
  held_by_word-lt : (index field held : ℕ) → held_by_word memory weak index field ≡ Some held → held < object_count memory
  held_by_word-lt index field held e =
      let chunk = chunk_words memory index in
      named_among-lt memory (strong_by_word memory weak chunk) chunk (Field field) held e

  compact_class-lt : (index class : ℕ) → compact_class memory weak index ≡ Some class → class < object_count memory
  compact_class-lt zero class e = absurd cc
  compact_class-lt (suc field) class e = by_array (compact_classes memory weak) e
    where
      by_array : (array : Option ℕ) → option_and_then (λ array. held_by_word memory weak array field) array ≡ Some class
          → class < object_count memory
      by_array None e = absurd cc
      by_array (Some array) e = held_by_word-lt array field class e

  class_by-lt : (chunk : List ℕ) (kind : Kind) (class : ℕ) → class_by memory weak chunk kind ≡ Some class
      → class < object_count memory
  class_by-lt chunk Three class e = named_among-lt memory (traced chunk) chunk ClassWord class e
  class_by-lt chunk Two class e = named_among-lt memory (traced chunk) chunk ClassWord class e
  class_by-lt chunk Free class e = absurd cc
  class_by-lt chunk Short class e = compact_class-lt (compact_index chunk) class e

  -- the class of an object is one
  pub class_of-lt : (chunk : List ℕ) (class : ℕ) → class_of memory weak chunk ≡ Some class → class < object_count memory
  class_of-lt chunk class e = class_by-lt chunk (chunk_kind chunk) class e

  -- the same of what a look-up gave
  pub class_of-inside : (chunk : List ℕ) (found : Option ℕ) → found ≡ class_of memory weak chunk
      → IfSome found (λ class. class < object_count memory)
  class_of-inside chunk None is = tt
  class_of-inside chunk (Some class) is = class_of-lt chunk class (sym is)

-- ---- groups and keys

-- the group of an object is one that some object may be in
pub group_of-inside : (memory : Memory) (weak : Weak) (chunk : List ℕ) → IsInside (object_count memory) (group_of memory weak chunk)
group_of-inside memory weak chunk = by_class (class_of memory weak chunk) refl
  where
    by_class : (class : Option ℕ) → class_of memory weak chunk ≡ class
        → IsInside (object_count memory) (group_by class (compact_index chunk))
    by_class (Some class) e = class_of-lt memory weak chunk class e
    by_class None e = omega arith

module _ (count : ℕ) where
  pub group_with-below : (key : ℕ) → key < count → group_with count key ≡ Class key
  group_with-below key lt = rw (lt-ltb key count lt) refl

  pub group_with-above : (key : ℕ) → count ≤ key → group_with count key ≡ Compact (key - count)
  group_with-above key le = rw (le-ltb key count le) refl

  -- its key is below the number of keys
  pub key_of-lt : (group : Group) → IsInside count group → key_of count group < count + 32
  key_of-lt (Class class) inside = omega arith
  key_of-lt (Compact index) inside = omega arith

  -- the group with its key is the group
  pub group_with-key_of : (group : Group) → IsInside count group → group_with count (key_of count group) ≡ group
  group_with-key_of (Class class) inside = group_with-below class inside
  group_with-key_of (Compact index) inside =
      let same : count + index - count ≡ index = omega arith in
      group_with-above (count + index) (omega arith) ∙ ap Compact same

  -- the group with a key is an object's group where the key is that group's key
  pub is_same-key : (group : Group) → IsInside count group → is_same (group_with count (key_of count group)) group ≡ true
  is_same-key (Class class) inside = rw (lt-ltb class count inside, eq-eqb class class refl) refl
  is_same-key (Compact index) inside =
      let same : count + index - count ≡ index = omega arith in
      rw (le-ltb (count + index) count (omega arith), eq-eqb (count + index - count) index same) refl

  -- and not where it is another
  pub is_same-other : (key : ℕ) (group : Group) → IsInside count group → (key ≡ key_of count group → ⊥)
      → is_same (group_with count key) group ≡ false
  is_same-other key (Class class) inside other =
      elim (cases_lt key count) [
        | inl lt ↦ rw (lt-ltb key count lt, ne_eqb key class other) refl
        | inr ge ↦ rw (le-ltb key count ge) refl
      ]
  is_same-other key (Compact index) inside other =
      elim (cases_lt key count) [
        | inl lt ↦ rw (lt-ltb key count lt) refl
        | inr ge ↦
            let apart : key - count ≡ index → ⊥ = λ same. other (omega arith) in
            rw (le-ltb key count ge, ne_eqb (key - count) index apart) refl
      ]

-- groups that are told to be the same are the same
pub is_same-equal : (one other : Group) → is_same one other ≡ true → one ≡ other
is_same-equal (Class one) (Class other) e = ap Class (eqb-true one other e)
is_same-equal (Compact one) (Compact other) e = ap Compact (eqb-true one other e)
is_same-equal (Class one) (Compact other) e = absurd cc
is_same-equal (Compact one) (Class other) e = absurd cc

-- ---- members

-- where some marked one passes a test, there is its index
some_marked : {X : Type 0} (p : X → Bool) (marks : List Bool) (xs : List X) (d : X)
    → 0 < length (filter p (marked marks xs))
    → (i : ℕ) × (i < length xs) × (get_or marks i false ≡ true) × (p (get_or xs i d) ≡ true)
some_marked p [] xs d lt = absurd (omega arith)
some_marked p (true ∷ marks) [] d lt = absurd (omega arith)
some_marked p (false ∷ marks) [] d lt = absurd (omega arith)
some_marked p (true ∷ marks) (x ∷ xs) d lt =
    elim (cases_Bool (p x)) [
      | inl passes ↦ (0, omega arith, refl, passes)
      | inr fails ↦
          let fewer : 0 < length (filter p (marked marks xs)) = rw fails at lt in
          let (index, inside, alive, passes) = some_marked p marks xs d fewer in (suc index, omega arith, alive, passes)
    ]
some_marked p (false ∷ marks) (x ∷ xs) d lt =
    let (index, inside, alive, passes) = some_marked p marks xs d lt in (suc index, omega arith, alive, passes)

abbrev pub no_object : Object
no_object = record { first = 0; chunk = [] }

module _ (memory : Memory) (weak : Weak) (marks : List Bool) (group : Group) (some : 0 < length (members memory weak marks group)) where
  -- a live object of the group
  record HasMember : Type 0 where
    index : ℕ
    inside : index < object_count memory
    alive : is_marked marks index ≡ true
    its : group_of memory weak (chunk_words memory index) ≡ group

  -- a group that has a member has one with an index
  some_member : HasMember
  some_member =
      let (index, inside, alive, same) =
      some_marked (λ object. is_same group (group_of memory weak object.chunk)) marks (objects memory) no_object some in
      record {
        index = index;
        inside = inside;
        alive = alive;
        its = sym (is_same-equal group (group_of memory weak (chunk_words memory index)) same);
      }

  -- and so some object may be in it
  pub member-inside : IsInside (object_count memory) group
  member-inside =
      let member = some_member in
      subst (IsInside (object_count memory)) member.its (group_of-inside memory weak (chunk_words memory member.index))

-- ---- the class of a live object is live

module _ (memory : Memory) (weak : Weak) (marks : List Bool) (reach : IsReachability memory weak marks) where
  edge_marked : (from : ℕ) → from < object_count memory → is_marked marks from ≡ true → (slot : Slot) (to : ℕ)
      → strong_target memory weak from slot ≡ Some to → is_marked marks to ≡ true
  edge_marked from inside is slot to names =
      (IsClosed-reachable (graph_from reach.start memory weak) marks reach.reached).along from to is
      (record { inside = inside; slot = slot; names = names })

  held_marked : (from field held : ℕ) → from < object_count memory → is_marked marks from ≡ true
      → held_by_word memory weak from field ≡ Some held → is_marked marks held ≡ true
  held_marked from field held inside is e =
      edge_marked from inside is (Field field) held (held_by_word-target memory weak from field held e)

  special_marked : is_marked marks reach.start ≡ true
  special_marked = reach.reached.complete reach.start (record { path = []; leads = refl })

  array_held : (array : ℕ) → compact_classes memory weak ≡ Some array → held_by_word memory weak reach.start 28 ≡ Some array
  array_held array e =
      ap (option_and_then (λ (special : ℕ). held_by_word memory weak special 28)) (sym reach.is_special) ∙ e

  array_marked : (array : ℕ) → compact_classes memory weak ≡ Some array → is_marked marks array ≡ true
  array_marked array e =
      let inside = find_in-lt memory.base (objects memory) memory.special reach.start reach.is_special in
      held_marked reach.start 28 array inside special_marked (array_held array e)

  compact_marked : (index class : ℕ) → compact_class memory weak index ≡ Some class → is_marked marks class ≡ true
  compact_marked zero class e = absurd cc
  compact_marked (suc field) class e = by_array (compact_classes memory weak) refl e
    where
      by_array : (array : Option ℕ) → compact_classes memory weak ≡ array
          → option_and_then (λ array. held_by_word memory weak array field) array ≡ Some class
          → is_marked marks class ≡ true
      by_array None is e = absurd cc
      by_array (Some array) is e =
          let inside = held_by_word-lt memory weak reach.start 28 array (array_held array is) in
          held_marked array field class inside (array_marked array is) e

  class_marked : (index class : ℕ) → index < object_count memory → is_marked marks index ≡ true
      → class_of memory weak (chunk_words memory index) ≡ Some class → is_marked marks class ≡ true
  class_marked index class inside is e = by_kind (chunk_kind (chunk_words memory index)) e
    where
      by_kind : (kind : Kind) → class_by memory weak (chunk_words memory index) kind ≡ Some class
          → is_marked marks class ≡ true
      by_kind Three e = edge_marked index inside is ClassWord class e
      by_kind Two e = edge_marked index inside is ClassWord class e
      by_kind Free e = absurd cc
      by_kind Short e = compact_marked (compact_index (chunk_words memory index)) class e

  -- the class of a group that has a member is marked
  pub class_of_group-marked : (class : ℕ) → 0 < length (members memory weak marks (Class class)) → is_marked marks class ≡ true
  class_of_group-marked class some =
      let member = some_member memory weak marks (Class class) some in
      by_class member.index member.inside member.alive (class_of memory weak (chunk_words memory member.index)) refl member.its
    where
      by_class : (index : ℕ) → index < object_count memory → is_marked marks index ≡ true
          → (its : Option ℕ) → class_of memory weak (chunk_words memory index) ≡ its
          → group_by its (compact_index (chunk_words memory index)) ≡ Class class → is_marked marks class ≡ true
      by_class index inside is (Some other) e same =
          let group_class : Group → ℕ = λ group. key_of 0 group in
          let same_class : other ≡ class = ap group_class same in
          class_marked index class inside is (e ∙ ap Some same_class)
      by_class index inside is None e same = absurd cc
