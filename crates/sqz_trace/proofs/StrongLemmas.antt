-- The strong fields of an object, by its class word only and by its class.
-- Serves `classes::compact_class`, `CopyLemmas` and `CompactClassLemmas`; `MovedLemmas` and
-- `MovedShapeLemmas` of `sqz_slide`; `GroupLemmas` of `sqz_histogram`; `HeldLemmas` of `sqz_facts`;
-- `CorrespondenceLemmas` of `sqz_alike`.
use Rattle.std.proofs.Common.{◌≡◌, ℕ, suc, ◌≤◌, Bool, true, false, cond, List, length, Option, Some, None, refl, ap, subst}
use Rattle.std.proofs.Common.{sym, ◌∙◌, arith, inl, inr}
use Rattle.std.proofs.lemmas.Bool.{cases_lt, lt-ltb, le-ltb}
use Rattle.std.specs.Prelude.{option_map, option_and_then}
use Rattle.sqz_object.specs.declared.chunk.Kind.{Kind}
use Rattle.sqz_object.specs.declared.chunk.Kind.TheVariants.{Three, Two, Free, Short}
use Rattle.sqz_object.specs.declared.layout.Layout.{Layout}
use Rattle.sqz_object.specs.declared.layout.Layout.TheVariants as layouts
use Rattle.sqz_object.specs.Chunk.{chunk_kind, fields}
use Rattle.sqz_object.specs.Layout.{layout, is_weak_layout}
use Rattle.sqz_image.specs.declared.slot.Slot.TheVariants.{ClassWord, Field}
use Rattle.sqz_image.specs.Objects.{Memory, chunk_words}
use Rattle.sqz_trace.specs.declared.weak.Weak.{Weak}
use Rattle.sqz_trace.specs.declared.weak.Weak.TheVariants.{Keep, Clear}
use Rattle.sqz_trace.specs.Slots.{traced, traced_of, class_address, class_word}
use Rattle.sqz_trace.specs.Targets.{named_by, named_in}
use Rattle.sqz_trace.specs.Strong.{is_weak, fixed_by, unless_above, strong_by, strong_by_word, held_by_word}
use Rattle.sqz_trace.specs.Strong.{compact_classes, compact_class, class_by, class_of, strong}
use Rattle.sqz_trace.specs.Edges.{strong_target}
use Rattle.sqz_trace.proofs.SlotLemmas.{traced_inside}
use Rattle.sqz_trace.proofs.TargetLemmas.{named_among-more}

-- where the header has no class word, none points to a class
pub named_in-no_class_word : (memory : Memory) (chunk : List ℕ) (kind : Kind) → chunk_kind chunk ≡ kind
    → class_word kind chunk ≡ None → named_in memory chunk ClassWord ≡ None
named_in-no_class_word memory chunk kind is lacks =
    ap (λ k. option_and_then (named_by memory) (option_map class_address (class_word k chunk))) is
    ∙ ap (λ word. option_and_then (named_by memory) (option_map class_address word)) lacks

module _ (memory : Memory) (weak : Weak) where
  -- without a class there are no more strong fields than with one
  strong_by-none : (chunk : List ℕ) (class : Option ℕ) → strong_by memory weak chunk None ≤ strong_by memory weak chunk class
  strong_by-none chunk class = by_test (is_weak weak chunk) (traced chunk)
    where
      by_test : (test : Bool) (other : ℕ)
          → cond test (unless_above (length (fields chunk)) (fixed_by memory None)) other
          ≤ cond test (unless_above (length (fields chunk)) (fixed_by memory class)) other
      by_test true other = omega arith
      by_test false other = omega arith

  -- a field that is strong by the class word is strong
  strong_by_word-le : (chunk : List ℕ) → strong_by_word memory weak chunk ≤ strong memory weak chunk
  strong_by_word-le chunk = by_kind (chunk_kind chunk) refl
    where
      by_kind : (kind : Kind) → chunk_kind chunk ≡ kind
          → strong_by_word memory weak chunk ≤ strong_by memory weak chunk (class_by memory weak chunk kind)
      by_kind Three is = omega arith
      by_kind Two is = omega arith
      by_kind Free is =
          subst (λ class. strong_by memory weak chunk class ≤ strong_by memory weak chunk None)
          (sym (named_in-no_class_word memory chunk Free is refl)) (omega arith)
      by_kind Short is =
          let class = class_by memory weak chunk Short in
          subst (λ word. strong_by memory weak chunk word ≤ strong_by memory weak chunk class)
          (sym (named_in-no_class_word memory chunk Short is refl)) (strong_by-none chunk class)

  -- what leads to a class by a compact index are strong slots
  pub held_by_word-target : (index field found : ℕ) → held_by_word memory weak index field ≡ Some found
      → strong_target memory weak index (Field field) ≡ Some found
  held_by_word-target index field found held =
      let chunk = chunk_words memory index in
      named_among-more memory chunk (strong_by_word memory weak chunk) (strong memory weak chunk) (Field field) found
      (strong_by_word-le chunk) held

-- a stated number is no more than there are
pub unless_above-le : (count : ℕ) (stated : Option ℕ) → unless_above count stated ≤ count
unless_above-le count None = omega arith
unless_above-le count (Some stated) =
    elim (cases_lt count stated) [
      | inl lt ↦ rw (lt-ltb count stated lt) (omega arith)
      | inr ge ↦ rw (le-ltb count stated ge) (omega arith)
    ]

-- the strong fields are some of the traced fields
pub strong-le : (memory : Memory) (weak : Weak) (chunk : List ℕ) → strong memory weak chunk ≤ traced chunk
strong-le memory Keep chunk = omega arith
strong-le memory Clear chunk = by_layout (layout chunk) (fields chunk) (fixed_by memory (class_of memory Clear chunk))
  where
    by_layout : (laid : Layout) (words : List ℕ) (stated : Option ℕ)
        → cond (is_weak_layout laid) (unless_above (length words) stated) (traced_of laid words) ≤ traced_of laid words
    by_layout layouts.Fields words stated = omega arith
    by_layout layouts.Weak words stated = unless_above-le (length words) stated
    by_layout layouts.Context words stated = omega arith
    by_layout layouts.Words words stated = omega arith
    by_layout (layouts.Bytes unused) words stated = omega arith
    by_layout layouts.Method words stated = omega arith

-- and so some of the fields
pub strong_inside : (memory : Memory) (weak : Weak) (chunk : List ℕ) → strong memory weak chunk ≤ length (fields chunk)
strong_inside memory weak chunk = omega (arith, strong-le memory weak chunk, traced_inside chunk)

-- the class with a compact index is held by the array of compact classes, if there is one
pub compact_class-held : (memory : Memory) (weak : Weak) (index field array : ℕ) → index ≡ suc field
    → compact_classes memory weak ≡ Some array → compact_class memory weak index ≡ held_by_word memory weak array field
compact_class-held memory weak index field array next is =
    ap (compact_class memory weak) next
    ∙ ap (option_and_then (λ (array : ℕ). held_by_word memory weak array field)) is
