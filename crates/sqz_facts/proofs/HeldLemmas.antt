-- What a slot of an object holds, by its word.
-- Serves `slots::held_by`, `slots::slot_facts` and `laws::one_held`.
use Rattle.std.proofs.Common.{◌≡◌, ℕ, ◌<◌, Bool, true, false, leb, List, length, slice_index, Option, Some, None}
use Rattle.std.proofs.Common.{refl, sym, ap, subst, ◌∙◌, inl, inr}
use Rattle.std.specs.Prelude.{is_none, option_and_then, option_map, slice_get, ℤ}
use Rattle.std.proofs.lemmas.Bool.{cases_lt, cond-true, cond-false, lt-ltb, le-ltb, leb-true, leb-false}
use Rattle.std.proofs.lemmas.Option.{slice_get_within, get_or_from_slice_get}
use Rattle.sqz_object.specs.Chunk.{fields}
use Rattle.sqz_object.specs.declared.value.Value.{Value}
use Rattle.sqz_object.specs.declared.value.Value.TheVariants.{Int, Pointer, Odd}
use Rattle.sqz_object.specs.Value.{value_of}
use Rattle.sqz_image.specs.declared.slot.Slot.{Slot}
use Rattle.sqz_image.specs.declared.slot.Slot.TheVariants.{Field}
use Rattle.sqz_image.specs.Objects.{Memory, objects, object_count, chunk_words, find}
use Rattle.sqz_image.proofs.ObjectLemmas.{find_in-lt}
use Rattle.sqz_trace.specs.declared.weak.Weak.TheVariants.{Clear}
use Rattle.sqz_trace.specs.Slots.{slot_word, word_among, traced}
use Rattle.sqz_trace.specs.Strong.{strong}
use Rattle.sqz_trace.specs.Targets.{object_named, named_by, target}
use Rattle.sqz_trace.specs.Edges.{strong_target}
use Rattle.sqz_trace.specs.Defects.{is_bad_value, is_bad_word}
use Rattle.sqz_trace.proofs.SlotLemmas.{slot_word-field}
use Rattle.sqz_trace.proofs.StrongLemmas.{strong-le}
use Rattle.sqz_trace.proofs.TargetLemmas.{named_among-more}
use Rattle.sqz_facts.specs.declared.slots.Held.{Held}
use Rattle.sqz_facts.specs.declared.slots.Held.TheVariants as held
use Rattle.sqz_facts.specs.Held.{IsHeld, PointsBelow, held_at, held_by, held_in}

module _ (memory : Memory) (object : ℕ) (slot : Slot) (word : ℕ)
    (holds : slot_word (chunk_words memory object) slot ≡ Some word) where
  -- what the word means, where it points to what is found at an address
  IsHeld-held_at : (weak : Bool) (address : ℕ) (found : Option ℕ) → value_of word ≡ Pointer address → find memory address ≡ found
      → (weak ≡ false → strong_target memory Clear object slot ≡ named_by memory word)
      → (weak ≡ true → strong_target memory Clear object slot ≡ None) → IsHeld memory object slot (held_at weak found)
  IsHeld-held_at weak address None is none strong cleared =
      ap (is_bad_word memory) holds ∙ ap (is_bad_value memory) is ∙ ap is_none none
  IsHeld-held_at false address (Some other) is some strong cleared = strong refl ∙ ap (object_named memory) is ∙ some
  IsHeld-held_at true address (Some other) is some strong cleared =
      (ap (option_and_then (named_by memory)) holds ∙ ap (object_named memory) is ∙ some, cleared refl)

  -- what the word means
  IsHeld-held_by : (weak : Bool) (value : Value) → value_of word ≡ value
      → (weak ≡ false → strong_target memory Clear object slot ≡ named_by memory word)
      → (weak ≡ true → strong_target memory Clear object slot ≡ None) → IsHeld memory object slot (held_by memory weak value)
  IsHeld-held_by weak (Int number) is strong cleared = ap (option_map value_of) holds ∙ ap (λ (v : Value). Some v) is
  IsHeld-held_by weak (Pointer address) is strong cleared =
      IsHeld-held_at weak address (find memory address) is refl strong cleared
  IsHeld-held_by weak (Odd odd) is strong cleared = ap (is_bad_word memory) holds ∙ ap (is_bad_value memory) is

module _ (memory : Memory) (object field : ℕ) where
  abbrev chunk : List ℕ
  chunk = chunk_words memory object

  abbrev word : ℕ
  word = slice_index (fields chunk) field

  -- a traced field holds what its word means
  IsHeld-traced : field < traced chunk
      → IsHeld memory object (Field field) (held_by memory (leb (strong memory Clear chunk) field) (value_of word))
  IsHeld-traced lt =
      IsHeld-held_by memory object (Field field) word (slot_word-field chunk field lt) (leb (strong memory Clear chunk) field)
      (value_of word) refl
      (λ is. ap (option_and_then (named_by memory))
      (cond-true _ (Some word) None (lt-ltb field (strong memory Clear chunk) (leb-false _ _ is))))
      (λ is. ap (option_and_then (named_by memory))
      (cond-false _ (Some word) None (le-ltb field (strong memory Clear chunk) (leb-true _ _ is))))

  -- and so does any field
  IsHeld-field : IsHeld memory object (Field field) (held_in memory chunk field word)
  IsHeld-field =
      elim (cases_lt field (traced chunk)) [
        | inl lt ↦ rw (lt-ltb field (traced chunk) lt) (IsHeld-traced lt)
        | inr le ↦ rw (le-ltb field (traced chunk) le) (cond-false _ (Some word) None (le-ltb field (traced chunk) le))
      ]

-- what the word that is read from a field means
pub IsHeld-read : (memory : Memory) (object field read : ℕ) (words : List ℕ) → words ≡ chunk_words memory object
    → slice_get (fields (chunk_words memory object)) field ≡ Some read
    → IsHeld memory object (Field field) (held_in memory words field read)
IsHeld-read memory object field read words same is =
    subst (λ (ws : List ℕ). IsHeld memory object (Field field) (held_in memory ws field read)) (sym same)
    (subst (λ (w : ℕ). IsHeld memory object (Field field) (held_in memory (chunk_words memory object) field w))
    (get_or_from_slice_get (fields (chunk_words memory object)) field read 0 is) (IsHeld-field memory object field))

-- a field that is read is among the fields
pub word_among-read : (words : List ℕ) (field read : ℕ) → slice_get (fields words) field ≡ Some read
    → Some read ≡ word_among (length (fields words)) words (Field field)
word_among-read words field read is =
    ap (λ (w : ℕ). Some w) (sym (get_or_from_slice_get (fields words) field read 0 is))
    ∙ sym (cond-true _ (Some (slice_index (fields words) field)) None
    (lt-ltb field (length (fields words)) (slice_get_within (fields words) field read is)))

-- ---- what is pointed to is an object

PointsBelow-held_at : (weak : Bool) (found : Option ℕ) (count : ℕ) → ((other : ℕ) → found ≡ Some other → other < count)
    → PointsBelow count (held_at weak found)
PointsBelow-held_at weak None count inside = tt
PointsBelow-held_at true (Some other) count inside = inside other refl
PointsBelow-held_at false (Some other) count inside = inside other refl

pub PointsBelow-found : (memory : Memory) (weak : Bool) (address : ℕ) (found : Option ℕ) → found ≡ find memory address
    → PointsBelow (object_count memory) (held_at weak found)
PointsBelow-found memory weak address found is =
    PointsBelow-held_at weak found (object_count memory)
    (λ other some. find_in-lt memory.base (objects memory) address other (sym is ∙ some))

-- ---- a slot holds one thing

-- the number of a SmallInteger
number_in : Value → Option ℤ
number_in (Int number) = Some number
number_in (Pointer address) = None
number_in (Odd odd) = None

-- what a slot holds, by its strong target, its target, whether its word is bad, and its number
decode : Option ℕ → Option ℕ → Bool → Option ℤ → Held
decode (Some other) target bad number = held.Pointer other
decode None (Some other) bad number = held.Weak other
decode None None true number = held.Bad
decode None None false (Some number) = held.Integer number
decode None None false None = held.Untraced

module _ (memory : Memory) where
  -- a bad word points to no object
  none_if_bad : (word : Option ℕ) → is_bad_word memory word ≡ true → option_and_then (named_by memory) word ≡ None
  none_if_bad None bad = refl
  none_if_bad (Some word) bad = by_value (value_of word) bad
    where
      by_found : (found : Option ℕ) → is_none found ≡ true → found ≡ None
      by_found None none = refl
      by_found (Some other) none = absurd cc

      by_value : (value : Value) → is_bad_value memory value ≡ true → object_named memory value ≡ None
      by_value (Int number) bad = refl
      by_value (Pointer address) bad = by_found (find memory address) bad
      by_value (Odd word) bad = refl

  module _ (word : Option ℕ) (number : ℤ) (is : option_map value_of word ≡ Some (Int number)) where
    -- a SmallInteger points to no object, and is not bad
    none_if_number : option_and_then (named_by memory) word ≡ None
    none_if_number = by_word word is
      where
        by_word : (w : Option ℕ) → option_map value_of w ≡ Some (Int number) → option_and_then (named_by memory) w ≡ None
        by_word None e = refl
        by_word (Some w) e = let same : value_of w ≡ Int number = cc in ap (object_named memory) same

    good_if_number : is_bad_word memory word ≡ false
    good_if_number = by_word word is
      where
        by_word : (w : Option ℕ) → option_map value_of w ≡ Some (Int number) → is_bad_word memory w ≡ false
        by_word None e = refl
        by_word (Some w) e = let same : value_of w ≡ Int number = cc in ap (is_bad_value memory) same

module _ (memory : Memory) (object : ℕ) (slot : Slot) where
  abbrev its_word : Option ℕ
  its_word = slot_word (chunk_words memory object) slot

  -- a strong target is the target
  strong_none : target memory object slot ≡ None → strong_target memory Clear object slot ≡ None
  strong_none none = by_target (strong_target memory Clear object slot) refl
    where
      by_target : (found : Option ℕ) → strong_target memory Clear object slot ≡ found → found ≡ None
      by_target None is = refl
      by_target (Some other) is =
          let words = chunk_words memory object in
          let same : target memory object slot ≡ Some other =
          named_among-more memory words (strong memory Clear words) (traced words) slot other (strong-le memory Clear words) is in
          absurd (let both : None ≡ Some other = sym none ∙ same in cc)

  decoded : Held
  decoded =
      decode (strong_target memory Clear object slot) (target memory object slot) (is_bad_word memory its_word)
      (option_and_then number_in (option_map value_of its_word))

  held-decoded : (one : Held) → IsHeld memory object slot one → one ≡ decoded
  unfolding decoded decode number_in
  held-decoded (held.Pointer other) is = rw is refl
  held-decoded (held.Weak other) is = rw (is.1, is.0) refl
  held-decoded (held.Integer number) is =
      let none = none_if_number memory its_word number is in
      rw (strong_none none, none, good_if_number memory its_word number is, is) refl
  held-decoded held.Untraced is =
      let none : target memory object slot ≡ None = ap (option_and_then (named_by memory)) is in
      rw (strong_none none, none, is) refl
  held-decoded held.Bad is =
      let none = none_if_bad memory its_word is in
      rw (strong_none none, none, is) refl

  pub one_held : (one other : Held) → IsHeld memory object slot one → IsHeld memory object slot other → one ≡ other
  one_held one other is also = held-decoded one is ∙ sym (held-decoded other also)
