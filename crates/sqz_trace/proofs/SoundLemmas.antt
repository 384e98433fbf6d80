-- An object without a defect: what that says about its parts, and about all marked objects.
-- Serves `CopyLemmas`; `CopiedLemmas` of `sqz_slide`.
use Rattle.std.proofs.Common.{◌≡◌, ℕ, zero, suc, ◌+◌, ◌<◌, ◌≤◌, Bool, true, false, cond, List, [], ◌∷◌, ◌++◌, map, length}
use Rattle.std.proofs.Common.{Option, Some, None, refl, ap, subst, arith, inl, inr}
use Rattle.std.specs.Prelude.{slice_index, slice_index_or, option_map}
use Rattle.std.proofs.lemmas.Bool.{cases_lt, le-ltb}
use Rattle.sqz_object.specs.declared.chunk.Kind.{Kind}
use Rattle.sqz_object.specs.declared.chunk.Kind.TheVariants.{Three, Two, Free, Short}
use Rattle.sqz_object.specs.Chunk.{chunk_kind, fields}
use Rattle.sqz_image.specs.declared.fault.Fault.{Fault}
use Rattle.sqz_image.specs.declared.fault.Fault.TheVariants.{NoClass, BadMethod, BadContext, BadWeak}
use Rattle.sqz_image.specs.declared.slot.Slot.{Slot}
use Rattle.sqz_image.specs.declared.slot.Slot.TheVariants.{ClassWord, Field}
use Rattle.sqz_image.specs.Objects.{Memory, Object, objects, object_count, object_at, address_in}
use Rattle.sqz_trace.specs.declared.weak.Weak.{Weak}
use Rattle.sqz_trace.specs.Slots.{traced, class_address, class_word, slot_word, slots, class_slots, field_slots}
use Rattle.sqz_trace.specs.Graph.{is_marked}
use Rattle.sqz_trace.specs.Live.{marked}
use Rattle.sqz_trace.specs.Defects.{lacks_class, is_bad_method, is_bad_context, is_bad_weak, is_bad_word, first_bad, bad_slot}
use Rattle.sqz_trace.specs.Defects.{bad_pointer, defect, first_some, first_defect}

-- nothing is wrong with the object with these words
pub record IsSound (memory : Memory) (weak : Weak) (chunk : List ℕ) : Type 0 where
  pub has_class : lacks_class chunk ≡ false
  pub as_method : is_bad_method chunk ≡ false
  pub as_context : is_bad_context chunk ≡ false
  pub as_weak : is_bad_weak memory weak chunk ≡ false
  pub slot : (slot : Slot) → is_bad_word memory (slot_word chunk slot) ≡ false

-- ---- the slots of an object

module _ (memory : Memory) (chunk : List ℕ) where
  -- the slot holds no bad word
  abbrev IsGood : Slot → Type 0
  IsGood slot = is_bad_word memory (slot_word chunk slot) ≡ false

  -- where no slot is bad there is no first bad one
  first_bad-none : ((slot : Slot) → IsGood slot) → (slots : List Slot) → first_bad memory chunk slots ≡ None
  first_bad-none good [] = refl
  first_bad-none good (slot ∷ slots) = rw (good slot) (first_bad-none good slots)

  -- where there is no first bad slot the first one is good, and there is none among the others
  first_bad-parts : (slot : Slot) (slots : List Slot) → first_bad memory chunk (slot ∷ slots) ≡ None
      → IsGood slot × (first_bad memory chunk slots ≡ None)
  first_bad-parts slot slots none = by_test (is_bad_word memory (slot_word chunk slot)) none
    where
      by_test : (test : Bool) → cond test (Some slot) (first_bad memory chunk slots) ≡ None
          → (test ≡ false) × (first_bad memory chunk slots ≡ None)
      by_test true e = absurd cc
      by_test false e = (refl, e)

  -- where there is no first bad slot in a list, there is none in its front and none in its rest
  first_bad-append : (front rest : List Slot) → first_bad memory chunk (front ++ rest) ≡ None
      → (first_bad memory chunk front ≡ None) × (first_bad memory chunk rest ≡ None)
  first_bad-append [] rest none = (refl, none)
  first_bad-append (slot ∷ front) rest none =
      let parts = first_bad-parts slot (front ++ rest) none in
      let others = first_bad-append front rest parts.1 in
      (rw (parts.0) others.0, others.1)

  -- no field is bad among those without a bad one
  field_slots-good : (from count index : ℕ) → first_bad memory chunk (field_slots from count) ≡ None
      → from ≤ index → index < from + count → IsGood (Field index)
  field_slots-good from zero index none le lt = absurd (omega arith)
  field_slots-good from (suc count) index none le lt =
      let parts = first_bad-parts (Field from) (field_slots (suc from) count) none in
      elim (cases_lt from index) [
        | inl later ↦ field_slots-good (suc from) count index parts.1 (omega arith) (omega arith)
        | inr last ↦ (let same : from ≡ index = omega arith in subst (λ (i : ℕ). IsGood (Field i)) same parts.0)
      ]

  -- the class word is not bad where it is not among the slots, either
  class_slots-good : (kind : Kind) → chunk_kind chunk ≡ kind → first_bad memory chunk (class_slots kind) ≡ None → IsGood ClassWord
  class_slots-good Three is none = (first_bad-parts ClassWord [] none).0
  class_slots-good Two is none = (first_bad-parts ClassWord [] none).0
  class_slots-good Free is none = ap (λ kind. is_bad_word memory (option_map class_address (class_word kind chunk))) is
  class_slots-good Short is none = ap (λ kind. is_bad_word memory (option_map class_address (class_word kind chunk))) is

  -- no slot of an object without a bad one is bad
  bad_slot-none : bad_slot memory chunk ≡ None → (slot : Slot) → IsGood slot
  bad_slot-none none ClassWord =
      let parts = first_bad-append (class_slots (chunk_kind chunk)) (field_slots 0 (traced chunk)) none in
      class_slots-good (chunk_kind chunk) refl parts.0
  bad_slot-none none (Field index) =
      let parts = first_bad-append (class_slots (chunk_kind chunk)) (field_slots 0 (traced chunk)) none in
      elim (cases_lt index (traced chunk)) [
        | inl lt ↦ field_slots-good 0 (traced chunk) index parts.1 (omega arith) (omega arith)
        | inr ge ↦
            ap (λ test. is_bad_word memory (cond test (Some (slice_index (fields chunk) index)) None))
            (le-ltb index (traced chunk) ge)
      ]

-- ---- an object

-- if four tests and those after them find no fault, each of them finds none
no_fault-parts : (one two three four : Bool) (f g h i : Fault) (rest : Option Fault)
    → cond one (Some f) (cond two (Some g) (cond three (Some h) (cond four (Some i) rest))) ≡ None
    → (one ≡ false) × (two ≡ false) × (three ≡ false) × (four ≡ false) × (rest ≡ None)
no_fault-parts true two three four f g h i rest none = absurd cc
no_fault-parts false true three four f g h i rest none = absurd cc
no_fault-parts false false true four f g h i rest none = absurd cc
no_fault-parts false false false true f g h i rest none = absurd cc
no_fault-parts false false false false f g h i rest none = (refl, refl, refl, refl, none)

-- and the other way round
no_fault-from : (one two three four : Bool) (f g h i : Fault) (rest : Option Fault)
    → one ≡ false → two ≡ false → three ≡ false → four ≡ false → rest ≡ None
    → cond one (Some f) (cond two (Some g) (cond three (Some h) (cond four (Some i) rest))) ≡ None
no_fault-from one two three four f g h i rest a b c d none = rw (a, b, c, d) none

-- no slot to report is none that is bad
bad_pointer-none : (address : ℕ) (slot : Option Slot) → bad_pointer address slot ≡ None → slot ≡ None
bad_pointer-none address None none = refl
bad_pointer-none address (Some slot) none = absurd cc

module _ (memory : Memory) (weak : Weak) (object : Object) where
  -- an object without a defect is sound
  pub IsSound-from_none : defect memory weak object ≡ None → IsSound memory weak object.chunk
  IsSound-from_none none =
      let address = address_in memory.base object in
      let chunk = object.chunk in
      let parts = no_fault-parts (lacks_class chunk) (is_bad_method chunk) (is_bad_context chunk) (is_bad_weak memory weak chunk)
      (NoClass address) (BadMethod address) (BadContext address) (BadWeak address)
      (bad_pointer address (bad_slot memory chunk)) none in
      record {
        has_class = parts.0;
        as_method = parts.1;
        as_context = parts.2;
        as_weak = parts.3;
        slot = bad_slot-none memory chunk (bad_pointer-none address (bad_slot memory chunk) parts.4);
      }

  -- and a sound one has no defect
  pub defect-none : IsSound memory weak object.chunk → defect memory weak object ≡ None
  defect-none sound =
      let address = address_in memory.base object in
      let chunk = object.chunk in
      no_fault-from (lacks_class chunk) (is_bad_method chunk) (is_bad_context chunk) (is_bad_weak memory weak chunk)
      (NoClass address) (BadMethod address) (BadContext address) (BadWeak address)
      (bad_pointer address (bad_slot memory chunk))
      sound.has_class sound.as_method sound.as_context sound.as_weak
      (ap (bad_pointer address) (first_bad-none memory chunk sound.slot (slots chunk)))

-- no slot of an object without a defect holds a bad word
pub sound_slot : (memory : Memory) (weak : Weak) (object : Object) → defect memory weak object ≡ None → (slot : Slot)
    → is_bad_word memory (slot_word object.chunk slot) ≡ false
sound_slot memory weak object none slot = (IsSound-from_none memory weak object none).slot slot

-- ---- all marked objects

-- where the first of some is none, so is each
first_some-parts : {Y : Type 0} (x : Option Y) (others : List (Option Y)) → first_some (x ∷ others) ≡ None
    → (x ≡ None) × (first_some others ≡ None)
first_some-parts None others none = (refl, none)
first_some-parts (Some x) others none = absurd cc

module _ {X Y : Type 0} (f : X → Option Y) (default : X) where
  -- where there is nothing to report of the marked elements, there is none of each
  first_some-sound : (marks : List Bool) (xs : List X) → length marks ≡ length xs → first_some (map f (marked marks xs)) ≡ None
      → (index : ℕ) → is_marked marks index ≡ true → f (slice_index_or xs index default) ≡ None
  first_some-sound [] [] same none index m = absurd cc
  first_some-sound [] (x ∷ xs) same none index m = absurd (omega arith)
  first_some-sound (mark ∷ marks) [] same none index m = absurd (omega arith)
  first_some-sound (true ∷ marks) (x ∷ xs) same none zero m = (first_some-parts (f x) (map f (marked marks xs)) none).0
  first_some-sound (true ∷ marks) (x ∷ xs) same none (suc index) m =
      first_some-sound marks xs (omega arith) (first_some-parts (f x) (map f (marked marks xs)) none).1 index m
  first_some-sound (false ∷ marks) (x ∷ xs) same none zero m = absurd cc
  first_some-sound (false ∷ marks) (x ∷ xs) same none (suc index) m =
      first_some-sound marks xs (omega arith) none index m

  -- and the other way round
  first_some-none : (marks : List Bool) (xs : List X)
      → ((index : ℕ) → index < length xs → f (slice_index_or xs index default) ≡ None)
      → first_some (map f (marked marks xs)) ≡ None
  first_some-none [] xs none = refl
  first_some-none (mark ∷ marks) [] none = by_mark mark
    where
      by_mark : (mark : Bool) → first_some (map f (marked (mark ∷ marks) [])) ≡ None
      by_mark true = refl
      by_mark false = refl
  first_some-none (true ∷ marks) (x ∷ xs) none =
      rw (none 0 (omega arith)) (first_some-none marks xs (λ index lt. none (suc index) (omega arith)))
  first_some-none (false ∷ marks) (x ∷ xs) none = first_some-none marks xs (λ index lt. none (suc index) (omega arith))

  -- and where there is none of each marked element
  first_some-marked : (marks : List Bool) (xs : List X) → length marks ≡ length xs
      → ((index : ℕ) → is_marked marks index ≡ true → f (slice_index_or xs index default) ≡ None)
      → first_some (map f (marked marks xs)) ≡ None
  first_some-marked [] [] same none = refl
  first_some-marked [] (x ∷ xs) same none = absurd (omega arith)
  first_some-marked (mark ∷ marks) [] same none = absurd (omega arith)
  first_some-marked (true ∷ marks) (x ∷ xs) same none =
      rw (none 0 refl) (first_some-marked marks xs (omega arith) (λ index marked. none (suc index) marked))
  first_some-marked (false ∷ marks) (x ∷ xs) same none =
      first_some-marked marks xs (omega arith) (λ index marked. none (suc index) marked)

module _ (memory : Memory) (weak : Weak) (marks : List Bool) (sized : length marks ≡ object_count memory) where
  -- where no marked object has a defect, there is no first one
  pub first_defect-marked : ((index : ℕ) → is_marked marks index ≡ true → defect memory weak (object_at memory index) ≡ None)
      → first_defect memory weak marks ≡ None
  first_defect-marked none =
      first_some-marked (defect memory weak) record { first = 0; chunk = [] } marks (objects memory) sized none

  -- where no marked object has a defect, a marked one has none
  pub defect-sound : first_defect memory weak marks ≡ None → (index : ℕ) → is_marked marks index ≡ true
      → defect memory weak (object_at memory index) ≡ None
  defect-sound none index m =
      first_some-sound (defect memory weak) record { first = 0; chunk = [] } marks (objects memory) sized none index m

  -- and the other way round, for a list of marks that has all
  pub first_defect-sound : ((index : ℕ) → index < object_count memory → defect memory weak (object_at memory index) ≡ None)
      → first_defect memory weak marks ≡ None
  first_defect-sound none =
      first_some-none (defect memory weak) record { first = 0; chunk = [] } marks (objects memory) none
