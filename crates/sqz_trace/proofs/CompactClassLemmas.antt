-- The class with a compact index, by the targets of slots.
-- Serves `laws::class_by_compact_index`.
use Rattle.std.proofs.Common.{◌≡◌, ℕ, zero, suc, Bool, true, false, cond, List, length, slice_index, Option, Some, None}
use Rattle.std.proofs.Common.{refl, sym, ap, ◌∙◌, arith, inl, inr}
use Rattle.std.proofs.lemmas.Bool.{le-ltb}
use Rattle.std.specs.Prelude.{option_and_then}
use Rattle.sqz_object.specs.declared.chunk.Kind.{Kind}
use Rattle.sqz_object.specs.declared.chunk.Kind.TheVariants.{Three, Two, Free, Short}
use Rattle.sqz_object.specs.Chunk.{chunk_kind, compact_index, fields}
use Rattle.sqz_image.specs.declared.slot.Slot.TheVariants.{Field}
use Rattle.sqz_image.specs.Objects.{Memory, chunk_words, find}
use Rattle.sqz_trace.specs.declared.weak.Weak.{Weak}
use Rattle.sqz_trace.specs.Slots.{traced}
use Rattle.sqz_trace.specs.Targets.{named_by, named_among}
use Rattle.sqz_trace.specs.Strong.{is_weak, fixed_by, unless_above, strong_by, strong_by_word, held_by_word}
use Rattle.sqz_trace.specs.Strong.{compact_classes, compact_class, class_by, strong}
use Rattle.sqz_trace.specs.Edges.{strong_target}
use Rattle.sqz_trace.specs.CompactClasses.{array_by_targets, class_by_targets, IsCircular}
use Rattle.sqz_trace.proofs.StrongLemmas.{named_in-no_class_word}

module _ (memory : Memory) (weak : Weak) where
  -- the strong fields of an object that is not weak are the same by any class
  strong_by-any : (chunk : List ℕ) (one other : Option ℕ) → is_weak weak chunk ≡ false
      → strong_by memory weak chunk one ≡ strong_by memory weak chunk other
  strong_by-any chunk one other not =
      let by_test : Option ℕ → Bool → ℕ =
      λ class test. cond test (unless_above (length (fields chunk)) (fixed_by memory class)) (traced chunk) in
      ap (by_test one) not ∙ sym (ap (by_test other) not)

  -- the class word gives all strong fields, except in a weak object whose class is that of its
  -- compact index
  strong_by_word-strong : (chunk : List ℕ)
      → (chunk_kind chunk ≡ Short → is_weak weak chunk ≡ true → class_by memory weak chunk Short ≡ None)
      → strong_by_word memory weak chunk ≡ strong memory weak chunk
  strong_by_word-strong chunk none = by_kind (chunk_kind chunk) refl
    where
      by_weak : (test : Bool) → chunk_kind chunk ≡ Short → is_weak weak chunk ≡ test
          → strong_by memory weak chunk None ≡ strong_by memory weak chunk (class_by memory weak chunk Short)
      by_weak true short is = ap (strong_by memory weak chunk) (sym (none short is))
      by_weak false short is = strong_by-any chunk None (class_by memory weak chunk Short) is

      by_kind : (kind : Kind) → chunk_kind chunk ≡ kind
          → strong_by_word memory weak chunk ≡ strong_by memory weak chunk (class_by memory weak chunk kind)
      by_kind Three is = refl
      by_kind Two is = refl
      by_kind Free is = ap (strong_by memory weak chunk) (named_in-no_class_word memory chunk Free is refl)
      by_kind Short is =
          ap (strong_by memory weak chunk) (named_in-no_class_word memory chunk Short is refl)
          ∙ by_weak (is_weak weak chunk) is refl

  -- so such a field points to the same object
  held_by_word-strong : (index field : ℕ)
      → (chunk_kind (chunk_words memory index) ≡ Short → is_weak weak (chunk_words memory index) ≡ true
      → compact_class memory weak (compact_index (chunk_words memory index)) ≡ None)
      → held_by_word memory weak index field ≡ strong_target memory weak index (Field field)
  held_by_word-strong index field none =
      let chunk = chunk_words memory index in
      ap (λ count. named_among memory count chunk (Field field)) (strong_by_word-strong chunk none)

  -- a weak object without a class word has no field that is strong by it
  held_by_word-none : (index field : ℕ) → chunk_kind (chunk_words memory index) ≡ Short
      → is_weak weak (chunk_words memory index) ≡ true → held_by_word memory weak index field ≡ None
  held_by_word-none index field short its =
      let chunk = chunk_words memory index in
      ap (λ class. named_among memory (strong_by memory weak chunk class) chunk (Field field))
      (named_in-no_class_word memory chunk Short short refl)
      ∙ ap (λ test. named_among memory (cond test 0 (traced chunk)) chunk (Field field)) its
      ∙ ap (λ test. option_and_then (named_by memory) (cond test (Some (slice_index (fields chunk) field)) None))
      (le-ltb field 0 (omega arith))

  -- through a special objects array that is such an object no compact index leads on
  compact_classes-none : (special : ℕ) → find memory memory.special ≡ Some special
      → chunk_kind (chunk_words memory special) ≡ Short → is_weak weak (chunk_words memory special) ≡ true
      → compact_classes memory weak ≡ None
  compact_classes-none special found short its =
      ap (option_and_then (λ index. held_by_word memory weak index 28)) found ∙ held_by_word-none special 28 short its

  compact_class-none : (index : ℕ) → compact_classes memory weak ≡ None → compact_class memory weak index ≡ None
  compact_class-none zero none = refl
  compact_class-none (suc field) none = ap (option_and_then (λ array. held_by_word memory weak array field)) none

  -- nor does any through such an array of compact classes
  compact_class-none_in : (index array : ℕ) → compact_classes memory weak ≡ Some array
      → chunk_kind (chunk_words memory array) ≡ Short → is_weak weak (chunk_words memory array) ≡ true
      → compact_class memory weak index ≡ None
  compact_class-none_in zero array found short its = refl
  compact_class-none_in (suc field) array found short its =
      ap (option_and_then (λ index. held_by_word memory weak index field)) found ∙ held_by_word-none array field short its

  -- the array of compact classes is the target of field 28 of the special objects array
  compact_classes-targets : compact_classes memory weak ≡ array_by_targets memory weak
  compact_classes-targets = by_special (find memory memory.special) refl
    where
      by_special : (special : Option ℕ) → find memory memory.special ≡ special
          → option_and_then (λ index. held_by_word memory weak index 28) special
          ≡ option_and_then (λ index. strong_target memory weak index (Field 28)) special
      by_special None is = refl
      by_special (Some special) is =
          held_by_word-strong special 28
          (λ short its. compact_class-none _ (compact_classes-none special is short its))

  -- and the class with a compact index is the target of its field
  pub compact_class-targets : (index : ℕ) → compact_class memory weak index ≡ class_by_targets memory weak index
  compact_class-targets zero = refl
  compact_class-targets (suc field) =
      by_array (compact_classes memory weak) refl
      ∙ ap (option_and_then (λ index. strong_target memory weak index (Field field))) compact_classes-targets
    where
      by_array : (array : Option ℕ) → compact_classes memory weak ≡ array
          → option_and_then (λ index. held_by_word memory weak index field) array
          ≡ option_and_then (λ index. strong_target memory weak index (Field field)) array
      by_array None is = refl
      by_array (Some array) is =
          held_by_word-strong array field (λ short its. compact_class-none_in _ array is short its)

  -- no class is found where its look-up needs its own result
  pub compact_class-circular : (index : ℕ) → IsCircular memory weak → compact_class memory weak index ≡ None
  compact_class-circular index circular =
      elim circular.is_one [
        | inl special ↦
            compact_class-none index (compact_classes-none circular.array special circular.has_short_header circular.has_weak_slots)
        | inr array ↦
            compact_class-none_in index circular.array (compact_classes-targets ∙ array) circular.has_short_header circular.has_weak_slots
      ]
