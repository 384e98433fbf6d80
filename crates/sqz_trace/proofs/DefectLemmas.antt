-- Seeking the first bad slot of an object, field by field; and the numbers of defects.
-- Serves `defects::bad_field`; `RunLemmas` of `sqz_tool`.
use Rattle.std.proofs.Common.{◌≡◌, ◌⊎◌, ℕ, ◌+◌, ◌-◌, ◌<◌, ◌≤◌, Bool, true, false, cond, List, [], ◌∷◌, map}
use Rattle.std.proofs.Common.{slice_index, Option, Some, None, ap, ◌∙◌, arith, inl, inr}
use Rattle.sqz_object.specs.Value.{value_of}
use Rattle.sqz_object.specs.Chunk.{fields}
use Rattle.sqz_image.specs.declared.slot.Slot.{Slot}
use Rattle.sqz_image.specs.declared.slot.Slot.TheVariants.{Field}
use Rattle.sqz_image.specs.Objects.{Memory, Object, address_in}
use Rattle.sqz_trace.specs.Slots.{traced, field_slots}
use Rattle.sqz_image.specs.declared.fault.Fault.{Fault}
use Rattle.sqz_image.specs.declared.fault.Fault.TheVariants.{NoClass, BadMethod, BadContext, BadWeak, BadPointer}
use Rattle.sqz_image.proofs.NumberLemmas.{HasNumber, HasNumber-none, HasNumber-some, HasNumber-if}
use Rattle.sqz_trace.specs.declared.weak.Weak.{Weak}
use Rattle.sqz_trace.specs.Live.{live}
use Rattle.sqz_trace.specs.Defects.{bad_pointer, defect, first_some, first_defect, bad_slot, is_bad_value}
use Rattle.sqz_trace.specs.Defects.{is_bad_word, first_bad}
use Rattle.sqz_trace.proofs.SlotLemmas.{field_slots-more, slot_word-field}

module _ (memory : Memory) (chunk : List ℕ) where
  -- a field holds a bad word
  abbrev pub is_bad_field : ℕ → Bool
  is_bad_field index = is_bad_value memory (value_of (slice_index (fields chunk) index))

  -- the first bad slot among the traced fields from an index on
  pub bad_from : ℕ → Option Slot
  bad_from index = first_bad memory chunk (field_slots index (traced chunk - index))

  -- from the first field on it is that of all fields
  pub bad_from-zero : bad_from 0 ≡ first_bad memory chunk (field_slots 0 (traced chunk))
  unfolding bad_from
  bad_from-zero =
      let all : traced chunk - 0 ≡ traced chunk = omega arith in
      ap (λ (count : ℕ). first_bad memory chunk (field_slots 0 count)) all

  -- after the last field there is none
  pub bad_from-end : (index : ℕ) → traced chunk ≤ index → bad_from index ≡ None
  unfolding bad_from
  bad_from-end index le =
      let none : traced chunk - index ≡ 0 = omega arith in
      ap (λ (count : ℕ). first_bad memory chunk (field_slots index count)) none

  -- a field's own word is looked at first, and then the fields behind it
  bad_from-more : (index : ℕ)
      → index < traced chunk → bad_from index ≡ cond (is_bad_field index) (Some (Field index)) (bad_from (index + 1))
  unfolding bad_from
  bad_from-more index lt =
      ap (first_bad memory chunk) (field_slots-more index (traced chunk) lt)
      ∙ ap (λ (word : Option ℕ). cond (is_bad_word memory word) (Some (Field index)) (bad_from (index + 1)))
      (slot_word-field chunk index lt)

  -- a bad word is the first one
  pub bad_from-bad : (index : ℕ)
      → index < traced chunk → is_bad_field index ≡ true → bad_from index ≡ Some (Field index)
  bad_from-bad index lt bad =
      bad_from-more index lt ∙ ap (λ (test : Bool). cond test (Some (Field index)) (bad_from (index + 1))) bad

  -- a good one is passed by
  pub bad_from-good : (index : ℕ)
      → index < traced chunk → is_bad_field index ≡ false → bad_from index ≡ bad_from (index + 1)
  bad_from-good index lt good =
      bad_from-more index lt ∙ ap (λ (test : Bool). cond test (Some (Field index)) (bad_from (index + 1))) good

-- ---- the numbers of defects

-- the refusals of an image: those up to 14, and those of weak slots
abbrev pub IsOfImage : ℕ → Type 0
IsOfImage number = (number ≤ 14) ⊎ (20 ≤ number)

bad_pointer-number : (address : ℕ) (slot : Option Slot) → HasNumber IsOfImage (bad_pointer address slot)
bad_pointer-number address None = HasNumber-none IsOfImage
bad_pointer-number address (Some slot) = HasNumber-some IsOfImage (BadPointer address slot) (inl (omega arith))

module _ (memory : Memory) (weak : Weak) where
  defect-number : (object : Object) → HasNumber IsOfImage (defect memory weak object)
  defect-number object =
      let address : ℕ = address_in memory.base object in
      HasNumber-if IsOfImage _ (NoClass address) _ (inl (omega arith))
      (HasNumber-if IsOfImage _ (BadMethod address) _ (inl (omega arith))
      (HasNumber-if IsOfImage _ (BadContext address) _ (inl (omega arith))
      (HasNumber-if IsOfImage _ (BadWeak address) _ (inr (omega arith))
      (bad_pointer-number address (bad_slot memory object.chunk)))))

  first_some-number : (found : Option Fault) (others : List (Option Fault))
      → HasNumber IsOfImage found → HasNumber IsOfImage (first_some others) → HasNumber IsOfImage (first_some (found ∷ others))
  first_some-number None others one rest = rest
  first_some-number (Some fault) others one rest = one

  some_defect-number : (objects : List Object) → HasNumber IsOfImage (first_some (map (defect memory weak) objects))
  some_defect-number [] = HasNumber-none IsOfImage
  some_defect-number (object ∷ objects) =
      first_some-number (defect memory weak object) (map (defect memory weak) objects) (defect-number object)
      (some_defect-number objects)

  pub first_defect-number : (marks : List Bool) → HasNumber IsOfImage (first_defect memory weak marks)
  first_defect-number marks = some_defect-number (live memory marks)
