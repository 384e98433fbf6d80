-- The patches of all marked objects, object by object; and where they lie.
-- Serves `pushing::push_patches` and `patches::nil_patches`.
use Rattle.std.proofs.Common.{◌≡◌, ℕ, zero, suc, ◌+◌, ◌<◌, ◌≤◌, Bool, true, false, cond, List, [], ◌++◌, length}
use Rattle.std.proofs.Common.{All, Option, Some, None, MatchOption, refl, sym, ap, ◌∙◌, arith, inl, inr}
use Rattle.std.specs.List.{AllByRecursion, concat, flat_map, range_with_len}
use Rattle.std.proofs.lemmas.Bool.{cases_Bool}
use Rattle.std.proofs.lemmas.List.{length-drop}
use Rattle.std.proofs.lemmas.List.Elements.{All-nil, All-cons, All-append, All-map, All-filter}
use Rattle.sqz_object.specs.declared.chunk.Kind.{Kind}
use Rattle.sqz_object.specs.declared.chunk.Kind.TheVariants.{Three, Two, Free, Short}
use Rattle.sqz_object.specs.Chunk.{IsChunk, chunk_kind, before}
use Rattle.sqz_image.specs.declared.slot.Slot.{Slot}
use Rattle.sqz_image.specs.declared.slot.Slot.TheVariants.{ClassWord, Field}
use Rattle.sqz_image.specs.Objects.{Memory, object_count, object_at, chunk_words}
use Rattle.sqz_image.proofs.HeapLemmas.{stands_at}
use Rattle.sqz_trace.specs.declared.weak.Weak.{Weak}
use Rattle.sqz_trace.specs.Graph.{is_marked}
use Rattle.sqz_trace.specs.Slots.{traced, class_slots, field_slots, slots}
use Rattle.sqz_trace.proofs.SlotLemmas.{traced_inside}
use Rattle.sqz_damage.specs.Words.{slot_index}
use Rattle.sqz_damage.specs.declared.dangling.patch.Patch.{Patch}
use Rattle.sqz_damage.specs.declared.dangling.nil_error.NilError.{NilError}
use Rattle.sqz_damage.specs.declared.dangling.nil_error.NilError.TheVariants.{OutOfMemory, NoNil, NoSpecialObjects}
use Rattle.sqz_damage.specs.Dangling.{is_lost, dangles, dangling_among, dangling_slots, nil_address}
use Rattle.sqz_damage.specs.Patches.{slot_patch, free_patch, patches_of, patches_at, patches_for, dangling_of}
use Rattle.sqz_damage.specs.Patches.{NothingDangles, IsNilError}
use Rattle.sqz_damage.specs.Pushed.{nil_or_zero, IsPushError}
use Rattle.sqz_damage.proofs.PushLemmas.{dangling_among-append}

-- the slots that dangle: the class word, and then fields
pub dangling_of-kept : (memory : Memory) (weak : Weak) (index : ℕ) → is_lost memory weak index ≡ false
    → let chunk = chunk_words memory index in
    dangling_of memory weak index
    ≡ dangling_among memory weak chunk (class_slots (chunk_kind chunk))
    ++ dangling_among memory weak chunk (field_slots 0 (traced chunk))
dangling_of-kept memory weak index kept =
    let chunk = chunk_words memory index in
    ap (λ (test : Bool). cond test [] (dangling_slots memory weak chunk)) kept
    ∙ dangling_among-append memory weak chunk (class_slots (chunk_kind chunk)) (field_slots 0 (traced chunk))

module _ (memory : Memory) (weak : Weak) (marks : List Bool) where
  -- a marked object has its patches, and another none
  pub patches_at-mark : (nil index : ℕ) (mark : Bool) → is_marked marks index ≡ mark
      → patches_at memory weak marks nil index ≡ cond mark (patches_of memory weak nil index) []
  patches_at-mark nil index mark is = ap (λ (test : Bool). cond test (patches_of memory weak nil index) []) is

  -- a nil that is needed is there
  pub nil-address : (nil : Option ℕ) → nil ≡ nil_address memory weak → (nil ≡ None → NothingDangles memory weak marks)
      → MatchOption (nil_address memory weak) (NothingDangles memory weak marks) (λ address. nil_or_zero nil ≡ address)
  nil-address None is nothing = rw (← is) (nothing refl)
  nil-address (Some address) is nothing = rw (← is) refl

  -- why an object has no patches is why there are none
  pub IsNilError-object : (nil : Option ℕ) (index : ℕ) (error : NilError) → nil ≡ nil_address memory weak
      → index < object_count memory → is_marked marks index ≡ true
      → IsPushError nil (dangling_of memory weak index) error → IsNilError memory weak marks error
  IsNilError-object nil index OutOfMemory is inside marked refused = tt
  IsNilError-object nil index NoNil is inside marked refused =
      (sym is ∙ refused.0, record { index = index; inside = inside; marked = marked; slot = refused.1.0; dangles = refused.1.1 })
  IsNilError-object nil index NoSpecialObjects is inside marked refused = absurd refused

-- ---- patches lie inside the data words

module _ (chunk : List ℕ) (header : before chunk < length chunk) where
  abbrev IsInside : Slot → Type 0
  IsInside slot = slot_index chunk slot < length chunk

  class_inside : (kind : Kind) → All IsInside (class_slots kind)
  class_inside Three = All-cons IsInside ClassWord [] (omega arith) (All-nil IsInside)
  class_inside Two = All-cons IsInside ClassWord [] (omega arith) (All-nil IsInside)
  class_inside Free = All-nil IsInside
  class_inside Short = All-nil IsInside

  fields_inside : (first count : ℕ) → first + count ≤ traced chunk → All IsInside (field_slots first count)
  fields_inside first zero le = All-nil IsInside
  fields_inside first (suc count) le =
      All-cons IsInside (Field first) (field_slots (suc first) count)
      (omega (arith, traced_inside chunk, length-drop (before chunk + 1) chunk))
      (fields_inside (suc first) count (omega arith))

  slots_inside : All IsInside (slots chunk)
  slots_inside =
      All-append IsInside (class_slots (chunk_kind chunk)) (field_slots 0 (traced chunk)) (class_inside (chunk_kind chunk))
      (fields_inside 0 (traced chunk) (omega arith))

module _ (memory : Memory) (weak : Weak) (chunks : AllByRecursion IsChunk memory.chunks) where
  abbrev IsDataWord : Patch → Type 0
  IsDataWord patch = patch.word < length (concat memory.chunks)

  object_inside : (nil index : ℕ) → index < object_count memory → All IsDataWord (patches_of memory weak nil index)
  object_inside nil index lt =
      let object = object_at memory index in
      let at = stands_at memory chunks index lt in
      let end = at.stands.inside in
      let header = at.header in
      elim (cases_Bool (is_lost memory weak index)) [
        | inl lost ↦ rw lost (All-cons IsDataWord (free_patch object) [] (omega arith) (All-nil IsDataWord))
        | inr kept ↦
            rw kept
            (All-map IsDataWord (slot_patch nil object) (dangling_slots memory weak object.chunk)
            (All-filter (dangles memory weak object.chunk) (λ slot. object.first + slot_index object.chunk slot < length (concat memory.chunks))
            (slots object.chunk)
            (λ k d inside. let below = slots_inside object.chunk header k d inside in omega arith)))
      ]

  at_inside : (marks : List Bool) (nil index : ℕ) → index < object_count memory → All IsDataWord (patches_at memory weak marks nil index)
  at_inside marks nil index lt =
      elim (cases_Bool (is_marked marks index)) [
        | inl marked ↦ rw (patches_at-mark memory weak marks nil index true marked) (object_inside nil index lt)
        | inr unmarked ↦ rw (patches_at-mark memory weak marks nil index false unmarked) (All-nil IsDataWord)
      ]

  range_inside : (marks : List Bool) (nil from count : ℕ) → from + count ≤ object_count memory
      → All IsDataWord (flat_map (patches_at memory weak marks nil) (range_with_len from count))
  range_inside marks nil from zero le = All-nil IsDataWord
  range_inside marks nil from (suc count) le =
      All-append IsDataWord _ _ (at_inside marks nil from (omega arith)) (range_inside marks nil (from + 1) count (omega arith))

  pub patches_inside : (marks : List Bool) (nil : ℕ) → All IsDataWord (patches_for memory weak marks nil)
  patches_inside marks nil = range_inside marks nil 0 (object_count memory) (omega arith)
