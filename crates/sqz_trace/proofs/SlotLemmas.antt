-- The slots of an object: how many of its fields they are, and one after another.
-- Serves `DefectLemmas`, `StrongLemmas` and `TargetLemmas`; `MovedShapeLemmas` of `sqz_slide`,
-- `object::hash_slots` of `sqz_digest` and `PushLemmas` of `sqz_damage`.
use Rattle.std.proofs.Common.{◌≡◌, ℕ, zero, suc, ◌+◌, ◌-◌, ◌<◌, ◌≤◌, Bool, cond, List, [], ◌∷◌, ◌++◌}
use Rattle.std.proofs.Common.{length, slice_index, Option, Some, None, ap, ◌∙◌, arith}
use Rattle.std.proofs.lemmas.Bool.{lt-ltb}
use Rattle.sqz_object.specs.declared.layout.Layout.{Layout}
use Rattle.sqz_object.specs.declared.layout.Layout.TheVariants.{Fields, Weak, Context, Words, Bytes, Method}
use Rattle.sqz_object.specs.Chunk.{fields}
use Rattle.sqz_object.specs.Layout.{layout}
use Rattle.sqz_image.specs.declared.slot.Slot.{Slot}
use Rattle.sqz_image.specs.declared.slot.Slot.TheVariants.{Field}
use Rattle.sqz_trace.specs.Slots.{context_fields, method_fields, clip, traced_of, traced, slot_word, field_slots}

-- a clipped number is no more than there are
clip-le : (stated : Option ℕ) (count : ℕ) → clip stated count ≤ count
clip-le None count = omega arith
clip-le (Some stated) count = omega arith

-- the traced fields are some of the fields
traced_of-le : (laid : Layout) (fields : List ℕ) → traced_of laid fields ≤ length fields
traced_of-le Fields fields = omega arith
traced_of-le Weak fields = omega arith
traced_of-le Context fields = clip-le (context_fields fields) (length fields)
traced_of-le Words fields = omega arith
traced_of-le (Bytes unused) fields = omega arith
traced_of-le Method fields = clip-le (method_fields fields) (length fields)

pub traced_inside : (chunk : List ℕ) → traced chunk ≤ length (fields chunk)
traced_inside chunk = traced_of-le (layout chunk) (fields chunk)

-- the slot of a traced field holds its word
pub slot_word-field : (chunk : List ℕ) (index : ℕ)
    → index < traced chunk → slot_word chunk (Field index) ≡ Some (slice_index (fields chunk) index)
slot_word-field chunk index lt =
    ap (λ (test : Bool). cond test (Some (slice_index (fields chunk) index)) None) (lt-ltb index (traced chunk) lt)

-- the slots of the fields from one on: its own, and those of the fields behind it
pub field_slots-more : (index count : ℕ)
    → index < count → field_slots index (count - index) ≡ Field index ∷ field_slots (index + 1) (count - (index + 1))
field_slots-more index count lt =
    let more : count - index ≡ suc (count - (index + 1)) = omega arith in
    let next : suc index ≡ index + 1 = omega arith in
    ap (field_slots index) more ∙ ap (λ (i : ℕ). Field index ∷ field_slots i (count - (index + 1))) next

-- the slots of fields, and of those after them
pub field_slots-append : (first count more : ℕ)
    → field_slots first (count + more) ≡ field_slots first count ++ field_slots (first + count) more
field_slots-append first zero more =
    let none : 0 + more ≡ more = omega arith in
    let same : first ≡ first + 0 = omega arith in
    ap (field_slots first) none ∙ ap (λ (index : ℕ). field_slots index more) same
field_slots-append first (suc count) more =
    let next : suc count + more ≡ suc (count + more) = omega arith in
    let last : suc first + count ≡ first + suc count = omega arith in
    ap (field_slots first) next
    ∙ ap (λ (slots : List Slot). Field first ∷ slots)
    (field_slots-append (suc first) count more
    ∙ ap (λ (index : ℕ). field_slots (suc first) count ++ field_slots index more) last)

-- the slots of one field more
pub fields-push : (count : ℕ) → field_slots 0 (count + 1) ≡ field_slots 0 count ++ Field count ∷ []
fields-push count =
    let same : 0 + count ≡ count = omega arith in
    field_slots-append 0 count 1 ∙ ap (λ (index : ℕ). field_slots 0 count ++ Field index ∷ []) same
