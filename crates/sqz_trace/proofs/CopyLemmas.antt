-- The marked objects of one memory, copied to another: all copies are reachable, none has a
-- defect, and nil is among them.
-- Serves `CopiedEdgeLemmas`; `CompactedLemmas`, `CopiedLemmas` and `SettledLemmas` of `sqz_slide`;
-- `CorrespondenceLemmas` and `FixedPointLemmas` of `sqz_tool`.
use Rattle.std.proofs.Common.{◌≡◌, ℕ, zero, suc, ◌<◌, ◌≤◌, Bool, true, false, ◌&&◌, cond, List, [], ◌∷◌, map}
use Rattle.std.proofs.Common.{length, slice_index, Option, Some, None, refl, sym, ap, subst, ◌∙◌, arith, inl, inr}
use Rattle.std.specs.Prelude.{replicate, is_none, option_map, option_and_then}
use Rattle.std.proofs.lemmas.Bool.{cases_lt, cases_Bool, lt-ltb, le-ltb, false≢true}
use Rattle.std.proofs.lemmas.List.{length-replicate, get_or-replicate, get_or_past}
use Rattle.std.proofs.lemmas.Option.{option_and_then_some}
use Rattle.sqz_object.specs.declared.value.Value.{Value}
use Rattle.sqz_object.specs.declared.value.Value.TheVariants.{Int, Pointer, Odd}
use Rattle.sqz_object.specs.declared.chunk.Kind.{Kind}
use Rattle.sqz_object.specs.declared.chunk.Kind.TheVariants.{Three, Two, Free, Short}
use Rattle.sqz_object.specs.Value.{value_of}
use Rattle.sqz_object.specs.Chunk.{chunk_kind, compact_index, fields}
use Rattle.sqz_object.specs.declared.layout.Layout.{Layout}
use Rattle.sqz_object.specs.declared.layout.Layout.TheVariants.{Fields, Weak as WeakFields, Context, Words, Bytes, Method}
use Rattle.sqz_object.specs.Layout.{layout, is_weak_layout}
use Rattle.sqz_image.specs.declared.slot.Slot.{Slot}
use Rattle.sqz_image.specs.declared.slot.Slot.TheVariants.{ClassWord, Field}
use Rattle.sqz_image.specs.Objects.{Memory, object_count, object_at, chunk_words, find}
use Rattle.sqz_trace.specs.declared.weak.Weak.{Weak}
use Rattle.sqz_trace.specs.declared.weak.Weak.TheVariants.{Keep, Clear}
use Rattle.sqz_trace.specs.Slots.{traced_of, traced, slot_word}
use Rattle.sqz_trace.specs.Targets.{object_named, named_by, named_among, named_in, target}
use Rattle.sqz_trace.specs.Strong.{is_weak, fixed_by, unless_above, strong_by, strong_by_word, held_by_word, compact_classes}
use Rattle.sqz_trace.specs.Strong.{compact_class, class_by, class_of, strong}
use Rattle.sqz_trace.specs.Edges.{strong_target, HasEdge, nil}
use Rattle.sqz_trace.specs.Graph.{Graph, Leads, IsReachable, is_marked}
use Rattle.sqz_trace.specs.Reachability.{graph_from, IsReachability}
use Rattle.sqz_trace.specs.Defects.{states_too_many, is_bad_weak, is_bad_value, is_bad_word, defect, first_defect, lacks_nil}
use Rattle.sqz_trace.proofs.StrongLemmas.{held_by_word-target, unless_above-le}
use Rattle.sqz_trace.proofs.EdgeLemmas.{named_among-lt}
use Rattle.sqz_trace.proofs.ReachabilityLemmas.{IsClosed-reachable, IsTracing, MarksReachable-from_tracing}
use Rattle.sqz_trace.proofs.ShapeLemmas.{IsShapedAs, same_by_parts, traced-shaped, fixed_fields-shaped, is_weak-shaped}
use Rattle.sqz_trace.proofs.ShapeLemmas.{compact_index-shaped, lacks_class-shaped, is_bad_method-shaped, is_bad_context-shaped}
use Rattle.sqz_trace.proofs.SoundLemmas.{IsSound, IsSound-from_none, defect-none, defect-sound, first_defect-sound}

-- the marked objects of one memory, copied to another: each object of the other is the copy of one, which has its shape; each
-- slot with a marked target names the copy of that, one with another target names something, and one that names nothing
-- holds no bad word and names nothing
pub record IsCopy (memory copy : Memory) (marks : List Bool) (new : ℕ → ℕ) : Type 0 where
  pub inside : (i : ℕ) → is_marked marks i ≡ true → new i < object_count copy
  pub onto : (j : ℕ) → j < object_count copy → (i : ℕ) × (is_marked marks i ≡ true) × (new i ≡ j)
  pub shaped : (i : ℕ) → is_marked marks i ≡ true → IsShapedAs (chunk_words memory i) (chunk_words copy (new i))
  pub special : (i : ℕ) → find memory memory.special ≡ Some i → find copy copy.special ≡ Some (new i)
  pub named : (i t : ℕ) (slot : Slot) → is_marked marks i ≡ true → target memory i slot ≡ Some t → is_marked marks t ≡ true
      → target copy (new i) slot ≡ Some (new t)
  pub others : (i t : ℕ) (slot : Slot) → is_marked marks i ≡ true → target memory i slot ≡ Some t → is_marked marks t ≡ false
      → (other : ℕ) × (target copy (new i) slot ≡ Some other)
  pub unnamed : (i : ℕ) (slot : Slot) → is_marked marks i ≡ true → target memory i slot ≡ None
      → (target copy (new i) slot ≡ None) × (is_bad_word copy (slot_word (chunk_words copy (new i)) slot) ≡ false)

-- ---- marks

-- marks on all objects
abbrev pub all_marked : Memory → List Bool
all_marked memory = replicate (object_count memory) true

-- what is marked has a mark in the list
pub marked_inside : (marks : List Bool) (index : ℕ) → is_marked marks index ≡ true → index < length marks
marked_inside marks index m =
    elim (cases_lt index (length marks)) [
      | inl lt ↦ lt
      | inr ge ↦ absurd (false≢true (sym (get_or_past marks index false ge) ∙ m))
    ]

module _ (memory : Memory) where
  -- an object is marked where all are
  all_marked-at : (index : ℕ) → index < object_count memory → is_marked (all_marked memory) index ≡ true
  all_marked-at index lt = get_or-replicate (object_count memory) index true false lt

  -- and only an object is
  all_marked-inside : (index : ℕ) → is_marked (all_marked memory) index ≡ true → index < object_count memory
  all_marked-inside index m =
      let lt = marked_inside (all_marked memory) index m in
      let sized = length-replicate (object_count memory) true in
      omega arith

-- ---- what fields name

module _ (memory : Memory) (chunk : List ℕ) (count k : ℕ) where
  -- the test on a field's index, in what the field names
  abbrev named_if : Bool → Option ℕ
  named_if test = option_and_then (named_by memory) (cond test (Some (slice_index (fields chunk) k)) None)

  -- a field that is a slot names what its word names
  field_inside : k < count → named_among memory count chunk (Field k) ≡ named_by memory (slice_index (fields chunk) k)
  field_inside lt = ap named_if (lt-ltb k count lt)

  -- one that is none names nothing
  field_outside : count ≤ k → named_among memory count chunk (Field k) ≡ None
  field_outside le = ap named_if (le-ltb k count le)

-- a slot that names an object holds no bad word
named-good : (memory : Memory) (chunk : List ℕ) (slot : Slot) (index : ℕ) → named_in memory chunk slot ≡ Some index
    → is_bad_word memory (slot_word chunk slot) ≡ false
named-good memory chunk slot index names = by_word (slot_word chunk slot) names
  where
    by_value : (value : Value) → object_named memory value ≡ Some index → is_bad_value memory value ≡ false
    by_value (Int number) e = refl
    by_value (Pointer address) e = ap is_none e
    by_value (Odd word) e = absurd cc

    by_word : (word : Option ℕ) → option_and_then (named_by memory) word ≡ Some index → is_bad_word memory word ≡ false
    by_word None e = refl
    by_word (Some word) e = by_value (value_of word) e

-- ---- the strong fields are some of those traced

-- the fields with a weak layout are all traced
traced_of-weak : (laid : Layout) (fields : List ℕ) → is_weak_layout laid ≡ true → traced_of laid fields ≡ length fields
traced_of-weak Fields fields is = absurd (false≢true is)
traced_of-weak WeakFields fields is = refl
traced_of-weak Context fields is = absurd (false≢true is)
traced_of-weak Words fields is = absurd (false≢true is)
traced_of-weak (Bytes unused) fields is = absurd (false≢true is)
traced_of-weak Method fields is = absurd (false≢true is)

-- a weak object's fields are all traced
traced-weak : (weak : Weak) (chunk : List ℕ) → is_weak weak chunk ≡ true → traced chunk ≡ length (fields chunk)
traced-weak Keep chunk is = absurd (false≢true is)
traced-weak Clear chunk is = traced_of-weak (layout chunk) (fields chunk) is

-- whatever the class, no more fields are strong than are traced
strong_by-traced : (memory : Memory) (weak : Weak) (chunk : List ℕ) (class : Option ℕ)
    → strong_by memory weak chunk class ≤ traced chunk
strong_by-traced memory weak chunk class =
    by_test (is_weak weak chunk) (length (fields chunk)) (traced chunk) (fixed_by memory class) (traced-weak weak chunk)
  where
    by_test : (test : Bool) (count all : ℕ) (stated : Option ℕ) → (test ≡ true → all ≡ count)
        → cond test (unless_above count stated) all ≤ all
    by_test true count all stated same =
        let le = unless_above-le count stated in
        let e : all ≡ count = same refl in
        omega arith
    by_test false count all stated same = omega arith

-- ---- nil

-- a nil that is mapped is there
lacks_nil-mapped : (memory copy : Memory) (weak : Weak) (new : ℕ → ℕ) → nil copy weak ≡ option_map new (nil memory weak)
    → lacks_nil memory weak ≡ false → lacks_nil copy weak ≡ false
lacks_nil-mapped memory copy Keep new same has_nil = refl
lacks_nil-mapped memory copy Clear new same has_nil = ap is_none same ∙ by_nil (nil memory Clear) has_nil
  where
    by_nil : (found : Option ℕ) → is_none found ≡ false → is_none (option_map new found) ≡ false
    by_nil None e = e
    by_nil (Some index) e = refl

-- ---- the edges of a marked object

module _ (memory : Memory) (weak : Weak) (marks : List Bool) (reachable : IsReachability memory weak marks) where
  -- a strong slot of a marked object that names an object is an edge
  pub HasEdge-named : (i t : ℕ) (slot : Slot) → is_marked marks i ≡ true → strong_target memory weak i slot ≡ Some t
      → HasEdge memory weak i t
  HasEdge-named i t slot m names =
      record {
        inside = let lt = marked_inside marks i m in let sized = reachable.reached.sized in omega arith;
        slot = slot;
        names = names;
      }

  -- what a marked object has an edge to is marked
  pub HasEdge-marked : (i t : ℕ) → is_marked marks i ≡ true → HasEdge memory weak i t → is_marked marks t ≡ true
  HasEdge-marked i t m edge =
      (IsClosed-reachable (graph_from reachable.start memory weak) marks reachable.reached).along i t m edge

-- ---- a copy

module _ (memory copy : Memory) (weak : Weak) (marks : List Bool) (new : ℕ → ℕ) (is : IsCopy memory copy marks new)
    (reachable : IsReachability memory weak marks) (has_nil : lacks_nil memory weak ≡ false)
    (sound : first_defect memory weak marks ≡ None) where
  abbrev IsMarked : ℕ → Type 0
  IsMarked i = is_marked marks i ≡ true

  -- the words of an object, and of its copy
  abbrev words : ℕ → List ℕ
  words i = chunk_words memory i

  abbrev copied : ℕ → List ℕ
  copied i = chunk_words copy (new i)

  -- what was found, if anything, is marked
  abbrev AreMarked : Option ℕ → Type 0
  AreMarked found = (t : ℕ) → found ≡ Some t → IsMarked t

  -- what a strong slot of a marked object names is marked
  strong_marked : (i : ℕ) (slot : Slot) → IsMarked i → AreMarked (strong_target memory weak i slot)
  strong_marked i slot m t names =
      HasEdge-marked memory weak marks reachable i t m (HasEdge-named memory weak marks reachable i t slot m names)

  -- a slot's copy names the copy of what the slot names
  target-copy : (i : ℕ) (slot : Slot) → IsMarked i → AreMarked (target memory i slot)
      → target copy (new i) slot ≡ option_map new (target memory i slot)
  target-copy i slot m marked = by_found (target memory i slot) refl
    where
      by_found : (found : Option ℕ) → target memory i slot ≡ found → target copy (new i) slot ≡ option_map new found
      by_found None e = (is.unnamed i slot m e).0
      by_found (Some t) e = is.named i t slot m e (marked t e)

  -- the same of the class word and the first `count` fields, all of them traced
  named_among-copy : (i count : ℕ) (slot : Slot) → IsMarked i → count ≤ traced (words i)
      → AreMarked (named_among memory count (words i) slot)
      → named_among copy count (copied i) slot ≡ option_map new (named_among memory count (words i) slot)
  named_among-copy i count ClassWord m le marked = target-copy i ClassWord m marked
  named_among-copy i count (Field k) m le marked =
      elim (cases_lt k count) [
        | inl lt ↦
            (let lt_traced : k < traced (words i) = omega arith in
            let lt_copied : k < traced (copied i) = omega (arith, traced-shaped (words i) (copied i) (is.shaped i m)) in
            let all : target memory i (Field k) ≡ named_among memory count (words i) (Field k) =
            field_inside memory (words i) (traced (words i)) k lt_traced ∙ sym (field_inside memory (words i) count k lt) in
            field_inside copy (copied i) count k lt
            ∙ sym (field_inside copy (copied i) (traced (copied i)) k lt_copied)
            ∙ target-copy i (Field k) m (λ t names. marked t (sym all ∙ names))
            ∙ ap (option_map new) all)
        | inr ge ↦
            field_outside copy (copied i) count k ge
            ∙ ap (option_map new) (sym (field_outside memory (words i) count k ge))
      ]

  -- ---- the class of a copy

  -- what the class word of a marked object names is marked
  class_word-marked : (i : ℕ) → IsMarked i → AreMarked (target memory i ClassWord)
  class_word-marked i m = strong_marked i ClassWord m

  -- and the copy's class word names the copy of that
  class_word-copy : (i : ℕ) → IsMarked i → target copy (new i) ClassWord ≡ option_map new (target memory i ClassWord)
  class_word-copy i m = target-copy i ClassWord m (class_word-marked i m)

  -- the copy of a class states as many fixed fields
  fixed_by-copy : (class : Option ℕ) → AreMarked class → fixed_by copy (option_map new class) ≡ fixed_by memory class
  fixed_by-copy None marked = refl
  fixed_by-copy (Some t) marked = fixed_fields-shaped (words t) (copied t) (is.shaped t (marked t refl))

  -- how many fields are strong, by the test on weak objects
  abbrev strong_from : Bool → ℕ → Option ℕ → ℕ → ℕ
  strong_from test count stated all = cond test (unless_above count stated) all

  -- as many fields are strong, by the copy of a class
  strong_by-copy : (i : ℕ) (class : Option ℕ) → IsMarked i → AreMarked class
      → strong_by copy weak (copied i) (option_map new class) ≡ strong_by memory weak (words i) class
  strong_by-copy i class m marked =
      let shaped = is.shaped i m in
      same_by_parts strong_from (is_weak weak (copied i)) (is_weak weak (words i)) _ _ _ _ _ _
      (is_weak-shaped (words i) (copied i) shaped weak) shaped.sized (fixed_by-copy class marked)
      (traced-shaped (words i) (copied i) shaped)

  -- as many fields are strong already by the class word
  strong_by_word-copy : (i : ℕ) → IsMarked i → strong_by_word copy weak (copied i) ≡ strong_by_word memory weak (words i)
  strong_by_word-copy i m =
      ap (strong_by copy weak (copied i)) (class_word-copy i m)
      ∙ strong_by-copy i (target memory i ClassWord) m (class_word-marked i m)

  -- what a field names that is strong by the class word is marked
  held_by_word-marked : (i field : ℕ) → IsMarked i → AreMarked (held_by_word memory weak i field)
  held_by_word-marked i field m t held = strong_marked i (Field field) m t (held_by_word-target memory weak i field t held)

  -- and the field's copy names the copy of that
  held_by_word-copy : (i field : ℕ) → IsMarked i
      → held_by_word copy weak (new i) field ≡ option_map new (held_by_word memory weak i field)
  held_by_word-copy i field m =
      let count = strong_by_word memory weak (words i) in
      ap (λ (count : ℕ). named_among copy count (copied i) (Field field)) (strong_by_word-copy i m)
      ∙ named_among-copy i count (Field field) m (strong_by-traced memory weak (words i) (target memory i ClassWord))
      (held_by_word-marked i field m)

  -- the special objects array is marked
  start_marked : IsMarked reachable.start
  start_marked = reachable.reached.complete reachable.start (record { path = []; leads = refl })

  -- the array of compact classes is named by a field of the special objects array
  compact_classes-held : compact_classes memory weak ≡ held_by_word memory weak reachable.start 28
  compact_classes-held = ap (option_and_then (λ special. held_by_word memory weak special 28)) reachable.is_special

  -- the array of compact classes is marked
  compact_classes-marked : AreMarked (compact_classes memory weak)
  compact_classes-marked t e = held_by_word-marked reachable.start 28 start_marked t (sym compact_classes-held ∙ e)

  -- and its copy is that of the copied memory
  compact_classes-copy : compact_classes copy weak ≡ option_map new (compact_classes memory weak)
  compact_classes-copy =
      ap (option_and_then (λ special. held_by_word copy weak special 28)) (is.special reachable.start reachable.is_special)
      ∙ held_by_word-copy reachable.start 28 start_marked
      ∙ ap (option_map new) (sym compact_classes-held)

  -- the class with a compact index is marked
  compact_class-marked : (index : ℕ) → AreMarked (compact_class memory weak index)
  compact_class-marked zero t e = absurd cc
  compact_class-marked (suc field) t e =
      option_and_then_some (λ array. held_by_word memory weak array field) (compact_classes memory weak) t e
      (λ array its held. held_by_word-marked array field (compact_classes-marked array its) t held)

  -- and its copy has that index in the copied memory
  compact_class-copy : (index : ℕ) → compact_class copy weak index ≡ option_map new (compact_class memory weak index)
  compact_class-copy zero = refl
  compact_class-copy (suc field) =
      ap (option_and_then (λ array. held_by_word copy weak array field)) compact_classes-copy
      ∙ by_array (compact_classes memory weak) compact_classes-marked
    where
      by_array : (array : Option ℕ) → AreMarked array
          → option_and_then (λ a. held_by_word copy weak a field) (option_map new array)
          ≡ option_map new (option_and_then (λ a. held_by_word memory weak a field) array)
      by_array None marked = refl
      by_array (Some array) marked = held_by_word-copy array field (marked array refl)

  -- the class of a marked object is marked
  class_of-marked : (i : ℕ) → IsMarked i → AreMarked (class_of memory weak (words i))
  class_of-marked i m = by_kind (chunk_kind (words i))
    where
      by_kind : (kind : Kind) → AreMarked (class_by memory weak (words i) kind)
      by_kind Three = class_word-marked i m
      by_kind Two = class_word-marked i m
      by_kind Free = λ t e. absurd cc
      by_kind Short = compact_class-marked (compact_index (words i))

  -- and its copy is the class of the object's copy
  class_of-copy : (i : ℕ) → IsMarked i → class_of copy weak (copied i) ≡ option_map new (class_of memory weak (words i))
  class_of-copy i m = ap (class_by copy weak (copied i)) (is.shaped i m).kind ∙ by_kind (chunk_kind (words i))
    where
      by_kind : (kind : Kind) → class_by copy weak (copied i) kind ≡ option_map new (class_by memory weak (words i) kind)
      by_kind Three = class_word-copy i m
      by_kind Two = class_word-copy i m
      by_kind Free = refl
      by_kind Short =
          ap (compact_class copy weak) (compact_index-shaped (words i) (copied i) (is.shaped i m))
          ∙ compact_class-copy (compact_index (words i))

  -- the class of a copy states as many fixed fields
  fixed_of-copy : (i : ℕ) → IsMarked i
      → fixed_by copy (class_of copy weak (copied i)) ≡ fixed_by memory (class_of memory weak (words i))
  fixed_of-copy i m =
      ap (fixed_by copy) (class_of-copy i m) ∙ fixed_by-copy (class_of memory weak (words i)) (class_of-marked i m)

  -- ---- strong slots

  -- an object's copy has as many strong fields
  pub strong-copy : (i : ℕ) → is_marked marks i ≡ true
      → strong copy weak (chunk_words copy (new i)) ≡ strong memory weak (chunk_words memory i)
  strong-copy i m =
      ap (strong_by copy weak (copied i)) (class_of-copy i m)
      ∙ strong_by-copy i (class_of memory weak (words i)) m (class_of-marked i m)

  -- a strong slot's copy names the copy of what the slot names
  pub strong_target-copy : (i : ℕ) (slot : Slot) → is_marked marks i ≡ true
      → strong_target copy weak (new i) slot ≡ option_map new (strong_target memory weak i slot)
  strong_target-copy i slot m =
      let count = strong memory weak (words i) in
      ap (λ (count : ℕ). named_among copy count (copied i) slot) (strong-copy i m)
      ∙ named_among-copy i count slot m (strong_by-traced memory weak (words i) (class_of memory weak (words i)))
      (strong_marked i slot m)

  -- where an edge leads from a marked object to another, one leads from its copy to that of the other
  pub HasEdge-copy : (i t : ℕ) → is_marked marks i ≡ true → HasEdge memory weak i t → HasEdge copy weak (new i) (new t)
  HasEdge-copy i t m edge =
      record {
        inside = is.inside i m;
        slot = edge.slot;
        names = strong_target-copy i edge.slot m ∙ ap (option_map new) edge.names;
      }

  -- ---- nil

  -- the copied memory has a nil
  pub lacks_nil-copy : lacks_nil copy weak ≡ false
  lacks_nil-copy =
      let start = reachable.start in
      lacks_nil-mapped memory copy weak new
      (ap (option_and_then (λ special. strong_target copy weak special (Field 0))) (is.special start reachable.is_special)
      ∙ strong_target-copy start (Field 0) start_marked
      ∙ ap (option_map new)
      (sym (ap (option_and_then (λ special. strong_target memory weak special (Field 0))) reachable.is_special)))
      has_nil

  -- ---- reachability

  -- the memory's graph, and the copy's
  abbrev graph : Graph
  graph = graph_from reachable.start memory weak

  abbrev copied_graph : Graph
  copied_graph = graph_from (new reachable.start) copy weak

  -- a path is copied object by object
  Leads-copy : (from : ℕ) (path : List ℕ) (goal : ℕ) → IsMarked from → Leads graph from path goal
      → Leads copied_graph (new from) (map new path) (new goal)
  Leads-copy from [] goal m same = ap new same
  Leads-copy from (next ∷ path) goal m leads =
      let next_marked = HasEdge-marked memory weak marks reachable from next m leads.0 in
      (HasEdge-copy from next m leads.0, Leads-copy next path goal next_marked leads.1)

  -- the copy of a marked object is reachable
  IsReachable-copy : (i : ℕ) → IsMarked i → IsReachable copied_graph (new i)
  IsReachable-copy i m =
      let reached = reachable.reached.sound i m in
      record { path = map new reached.path; leads = Leads-copy reachable.start reached.path i start_marked reached.leads }

  -- marks on all objects are a tracing of the copy
  IsTracing-copy : IsTracing copied_graph (all_marked copy)
  IsTracing-copy =
      record {
        sized = length-replicate (object_count copy) true;
        has_start = all_marked-at copy (new reachable.start) (is.inside reachable.start start_marked);
        closed =
            record {
              along = λ from to m edge.
                  all_marked-at copy to (named_among-lt copy (strong copy weak (chunk_words copy from)) (chunk_words copy from)
                  edge.slot to edge.names);
            };
        reached = λ j m.
            let source = is.onto j (all_marked-inside copy j m) in
            subst (IsReachable copied_graph) source.2 (IsReachable-copy source.0 source.1);
      }

  -- all copies are reachable
  pub IsReachability-copy : IsReachability copy weak (all_marked copy)
  IsReachability-copy =
      record {
        start = new reachable.start;
        is_special = is.special reachable.start reachable.is_special;
        reached = MarksReachable-from_tracing copied_graph (all_marked copy) IsTracing-copy;
      }

  -- ---- defects

  -- no slot of a copy is bad
  slot-copy : (i : ℕ) → IsMarked i → (slot : Slot) → is_bad_word copy (slot_word (copied i) slot) ≡ false
  slot-copy i m slot = by_target (target memory i slot) refl
    where
      by_target : (found : Option ℕ) → target memory i slot ≡ found → is_bad_word copy (slot_word (copied i) slot) ≡ false
      by_target None e = (is.unnamed i slot m e).1
      by_target (Some t) e =
          elim (cases_Bool (is_marked marks t)) [
            | inl marked ↦ named-good copy (copied i) slot (new t) (is.named i t slot m e marked)
            | inr other ↦
                (let found = is.others i t slot m e other in
                named-good copy (copied i) slot found.0 found.1)
          ]

  -- the copy of a weak object has the fixed fields that its class states, if the object has
  is_bad_weak-copy : (i : ℕ) → IsMarked i → is_bad_weak copy weak (copied i) ≡ is_bad_weak memory weak (words i)
  is_bad_weak-copy i m =
      let shaped = is.shaped i m in
      same_by_parts (λ test stated count (none : ℕ). test && states_too_many stated count)
      (is_weak weak (copied i)) (is_weak weak (words i)) _ _ _ _ 0 0
      (is_weak-shaped (words i) (copied i) shaped weak) (fixed_of-copy i m) shaped.sized refl

  -- the copy of a sound object is sound
  IsSound-copy : (i : ℕ) → IsMarked i → IsSound memory weak (words i) → IsSound copy weak (copied i)
  IsSound-copy i m it =
      let shaped = is.shaped i m in
      record {
        has_class = lacks_class-shaped (words i) (copied i) shaped ∙ it.has_class;
        as_method = is_bad_method-shaped (words i) (copied i) shaped ∙ it.as_method;
        as_context = is_bad_context-shaped (words i) (copied i) shaped ∙ it.as_context;
        as_weak = is_bad_weak-copy i m ∙ it.as_weak;
        slot = slot-copy i m;
      }

  -- the copy of a marked object has no defect
  defect-copy : (i : ℕ) → IsMarked i → defect copy weak (object_at copy (new i)) ≡ None
  defect-copy i m =
      defect-none copy weak (object_at copy (new i))
      (IsSound-copy i m
      (IsSound-from_none memory weak (object_at memory i)
      (defect-sound memory weak marks reachable.reached.sized sound i m)))

  -- no copy has a defect
  pub first_defect-copy : first_defect copy weak (all_marked copy) ≡ None
  first_defect-copy =
      first_defect-sound copy weak (all_marked copy) (length-replicate (object_count copy) true)
      (λ j lt.
      let source = is.onto j lt in
      subst (λ (k : ℕ). defect copy weak (object_at copy k) ≡ None) source.2 (defect-copy source.0 source.1))
