-- The compacted memory is a copy of the live objects: its slots point to the copies of the
-- original slots' targets.
-- Serves `CorrespondenceLemmas` and `FixedPointLemmas` of `sqz_tool`.
use Rattle.std.proofs.Common.{◌≡◌, ℕ, ◌%◌, Bool, true, false, cond, eqb, List, [], length, Option, Some, None, refl}
use Rattle.std.proofs.Common.{sym, ap, subst, ◌∙◌}
use Rattle.std.proofs.Common.{arith, inl, inr}
use Rattle.std.specs.Prelude.{unwrap_or, option_and_then}
use Rattle.std.specs.Option.{is_none}
use Rattle.std.specs.List.{AllByRecursion}
use Rattle.std.proofs.lemmas.Bool.{false≢true, ne_eqb}
use Rattle.std.proofs.lemmas.Option.{none-some, same_Some}
use Rattle.sqz_object.specs.declared.value.Value.{Value}
use Rattle.sqz_object.specs.declared.value.Value.TheVariants.{Int, Pointer, Odd}
use Rattle.sqz_object.specs.Value.{value_of}
use Rattle.sqz_object.specs.Chunk.{IsChunk}
use Rattle.sqz_image.specs.declared.slot.Slot.{Slot}
use Rattle.sqz_image.specs.declared.slot.Slot.TheVariants.{Field}
use Rattle.sqz_image.specs.Objects.{Memory, object_count, object_at, chunk_words, find}
use Rattle.sqz_trace.specs.declared.weak.Weak.{Weak}
use Rattle.sqz_trace.specs.declared.weak.Weak.TheVariants.{Keep, Clear}
use Rattle.sqz_trace.specs.Slots.{slot_word}
use Rattle.sqz_trace.specs.Targets.{object_named, named_by, named_among, target}
use Rattle.sqz_trace.specs.Strong.{strong}
use Rattle.sqz_trace.specs.Edges.{strong_target, nil}
use Rattle.sqz_trace.specs.Graph.{is_marked}
use Rattle.sqz_trace.specs.Reachability.{graph_from, IsReachability}
use Rattle.sqz_trace.specs.Defects.{is_bad_value, is_bad_word, first_defect, lacks_nil}
use Rattle.sqz_trace.proofs.ReachabilityLemmas.{IsClosed-reachable}
use Rattle.sqz_trace.proofs.ShapeLemmas.{IsShapedAs}
use Rattle.sqz_trace.proofs.SoundLemmas.{defect-sound, sound_slot}
use Rattle.sqz_trace.proofs.CopyLemmas.{IsCopy}
use Rattle.sqz_regions.specs.Places.{place}
use Rattle.sqz_regions.specs.Bases.{place_if_marked}
use Rattle.sqz_slide.specs.Moved.{new_address, moved_field, nil_place, address_or, moved_weak, moved}
use Rattle.sqz_slide.proofs.MovedShapeLemmas.{place-aligned, moved-shaped, slot_word-moved, slot_word-moved_none}
use Rattle.sqz_slide.proofs.CompactedLemmas.{compacted_with, new_index, inside_memory, chunk_is, inside-copied, words-copied}
use Rattle.sqz_slide.proofs.CompactedLemmas.{found-copied, onto-copied}

-- a multiple of four is an address
value_of-address : (word : ℕ) → word % 4 ≡ 0 → value_of word ≡ Pointer word
value_of-address word aligned =
    rw (ne_eqb (word % 2) 1 (λ e. omega arith)) (ap (λ (n : ℕ). cond (eqb n 0) (Pointer word) (Odd word)) aligned)

-- a value that names nothing, and is not bad, is an integer, which names nothing in any memory
unnamed_value : (memory copy : Memory) (value : Value) → object_named memory value ≡ None → is_bad_value memory value ≡ false
    → (object_named copy value ≡ None) × (is_bad_value copy value ≡ false)
unnamed_value memory copy (Int number) none good = (refl, refl)
unnamed_value memory copy (Pointer address) none good = absurd (false≢true (sym good ∙ ap is_none none))
unnamed_value memory copy (Odd word) none good = absurd (false≢true (sym good))

module _ (memory : Memory) (marks : List Bool) (word : ℕ) where
  -- a word that names a marked object becomes its place
  moved_field-marked : (t : ℕ) → named_by memory word ≡ Some t → is_marked marks t ≡ true
      → moved_field memory marks word ≡ place memory marks t
  moved_field-marked t names m =
      ap (new_address memory marks word) names ∙ ap (λ (test : Bool). cond test (place memory marks t) word) m

  moved_weak-marked : (weak : Weak) (t : ℕ) → named_by memory word ≡ Some t → is_marked marks t ≡ true
      → moved_weak memory weak marks word ≡ place memory marks t
  moved_weak-marked weak t names m =
      let other = unwrap_or (nil_place memory weak marks) word in
      ap (address_or memory marks (nil_place memory weak marks) word) names
      ∙ ap (λ (test : Bool). cond test (place memory marks t) other) m

  -- a weak one that names another object becomes nil's place
  moved_weak-nil : (weak : Weak) (t n : ℕ) → named_by memory word ≡ Some t → is_marked marks t ≡ false → nil memory weak ≡ Some n
      → is_marked marks n ≡ true → moved_weak memory weak marks word ≡ place memory marks n
  moved_weak-nil weak t n names dead is_nil m =
      let other = unwrap_or (nil_place memory weak marks) word in
      let nil_is : nil_place memory weak marks ≡ Some (place memory marks n) =
      ap (option_and_then (place_if_marked memory marks)) is_nil
      ∙ ap (λ (test : Bool). cond test (Some (place memory marks n)) None) m
      in
      ap (address_or memory marks (nil_place memory weak marks) word) names
      ∙ ap (λ (test : Bool). cond test (place memory marks t) other) dead
      ∙ ap (λ (found : Option ℕ). unwrap_or found word) nil_is

  -- one that names nothing stays
  moved_field-unnamed : named_by memory word ≡ None → moved_field memory marks word ≡ word
  moved_field-unnamed none = ap (new_address memory marks word) none

  moved_weak-unnamed : (weak : Weak) → named_by memory word ≡ None → moved_weak memory weak marks word ≡ word
  moved_weak-unnamed weak none = ap (address_or memory marks (nil_place memory weak marks) word) none

module _ (memory : Memory) (weak : Weak) (marks : List Bool) (aligned : memory.base % 4 ≡ 0)
    (chunks : AllByRecursion IsChunk memory.chunks) (reachable : IsReachability memory weak marks)
    (has_nil : lacks_nil memory weak ≡ false) (sound : first_defect memory weak marks ≡ None) (special : ℕ)
    (special_is : (i : ℕ) → find memory memory.special ≡ Some i → special ≡ place memory marks i) where
  abbrev sized : length marks ≡ object_count memory
  sized = reachable.reached.sized

  abbrev copy : Memory
  copy = compacted_with memory weak marks aligned chunks sized special

  abbrev new : ℕ → ℕ
  new = new_index memory weak marks aligned chunks sized

  abbrev words : ℕ → List ℕ
  words i = chunk_words memory i

  -- ---- what is marked

  start_marked : is_marked marks reachable.start ≡ true
  start_marked = reachable.reached.complete reachable.start (record { path = []; leads = refl })

  -- what a strong slot of a marked object names
  strong_marked : (i t : ℕ) (slot : Slot) → is_marked marks i ≡ true → strong_target memory weak i slot ≡ Some t → is_marked marks t ≡ true
  strong_marked i t slot m names =
      (IsClosed-reachable (graph_from reachable.start memory weak) marks reachable.reached).along i t m
      (record { inside = inside_memory memory weak marks aligned chunks sized i m; slot = slot; names = names })

  -- nil, where weak slots are cleared
  nil_marked : (n : ℕ) → nil memory weak ≡ Some n → is_marked marks n ≡ true
  nil_marked n is_nil =
      strong_marked reachable.start n (Field 0) start_marked
      (sym (ap (option_and_then (λ (s : ℕ). strong_target memory weak s (Field 0))) reachable.is_special) ∙ is_nil)

  -- ---- what the slots of a copy name

  -- the copy of a marked object stands at its place
  named_by-place : (t : ℕ) → is_marked marks t ≡ true → named_by copy (place memory marks t) ≡ Some (new t)
  named_by-place t m =
      ap (object_named copy) (value_of-address (place memory marks t) (place-aligned memory weak marks aligned t))
      ∙ found-copied memory weak marks aligned chunks sized t m special

  module _ (i : ℕ) (slot : Slot) (m : is_marked marks i ≡ true) where
    abbrev moved_words : List ℕ
    moved_words = moved memory weak marks (words i)

    -- a slot of the copy is that of the object after the move
    slot_word-copied : slot_word (chunk_words copy (new i)) slot ≡ slot_word moved_words slot
    slot_word-copied = ap (λ (w : List ℕ). slot_word w slot) (words-copied memory weak marks aligned chunks sized i m special)

    target-copied : (word : ℕ) → slot_word moved_words slot ≡ Some word → target copy (new i) slot ≡ named_by copy word
    target-copied word holds = ap (option_and_then (named_by copy)) (slot_word-copied ∙ holds)

    -- where it holds the place of a marked object, it names the copy of that
    names-copy : (word t : ℕ) → slot_word moved_words slot ≡ Some word → word ≡ place memory marks t → is_marked marks t ≡ true
        → target copy (new i) slot ≡ Some (new t)
    names-copy word t holds at mt = target-copied word holds ∙ ap (named_by copy) at ∙ named_by-place t mt

    -- a slot that names a marked object
    named-copied : (t : ℕ) → target memory i slot ≡ Some t → is_marked marks t ≡ true → target copy (new i) slot ≡ Some (new t)
    named-copied t names mt = by_word (slot_word (words i) slot) refl names
      where
        by_word : (found : Option ℕ) → slot_word (words i) slot ≡ found → option_and_then (named_by memory) found ≡ Some t
            → target copy (new i) slot ≡ Some (new t)
        by_word None e n = absurd (none-some t n)
        by_word (Some word) e n =
            elim (slot_word-moved memory weak marks aligned (words i) (chunk_is memory weak marks aligned chunks sized i m) slot word e) [
              | inl h ↦ names-copy _ t h.0 (moved_field-marked memory marks word t n mt) mt
              | inr h ↦ names-copy _ t h (moved_weak-marked memory marks word weak t n mt) mt
            ]

    -- one that names another object names nil
    others-copied : (t : ℕ) → target memory i slot ≡ Some t → is_marked marks t ≡ false
        → (other : ℕ) × (target copy (new i) slot ≡ Some other)
    others-copied t names dead = by_weak weak refl
      where
        not_strong : strong_target memory weak i slot ≡ Some t → ⊥
        not_strong e = false≢true (sym dead ∙ strong_marked i t slot m e)

        with_nil : (found : Option ℕ) → nil memory weak ≡ found → is_none found ≡ false
            → (other : ℕ) × (target copy (new i) slot ≡ Some other)
        with_nil None e some = absurd (false≢true (sym some))
        with_nil (Some n) is_nil some = by_word (slot_word (words i) slot) refl names
          where
            by_word : (found : Option ℕ) → slot_word (words i) slot ≡ found → option_and_then (named_by memory) found ≡ Some t
                → (other : ℕ) × (target copy (new i) slot ≡ Some other)
            by_word None e names = absurd (none-some t names)
            by_word (Some word) e names =
                let is_chunk = chunk_is memory weak marks aligned chunks sized i m in
                elim (slot_word-moved memory weak marks aligned (words i) is_chunk slot word e) [
                  | inl h ↦ absurd (not_strong (ap (option_and_then (named_by memory)) h.1 ∙ names))
                  | inr h ↦ (
                    new n,
                    names-copy _ n h (moved_weak-nil memory marks word weak t n names dead is_nil (nil_marked n is_nil))
                        (nil_marked n is_nil),
                  )
                ]

        by_weak : (policy : Weak) → weak ≡ policy → (other : ℕ) × (target copy (new i) slot ≡ Some other)
        by_weak Keep e =
            absurd (not_strong (ap (λ (w : Weak). named_among memory (strong memory w (words i)) (words i) slot) e ∙ names))
        by_weak Clear e =
            with_nil (nil memory weak) refl
            (ap (λ (w : Weak). is_none (nil memory w)) e ∙ subst (λ (w : Weak). lacks_nil memory w ≡ false) e has_nil)

    -- one that names nothing
    unnamed-copied : target memory i slot ≡ None
        → (target copy (new i) slot ≡ None) × (is_bad_word copy (slot_word (chunk_words copy (new i)) slot) ≡ false)
    unnamed-copied none = by_word (slot_word (words i) slot) refl none good
      where
        good : is_bad_word memory (slot_word (words i) slot) ≡ false
        good = sound_slot memory weak (object_at memory i) (defect-sound memory weak marks sized sound i m) slot

        holding : (found : Option ℕ) → slot_word moved_words slot ≡ found
            → (option_and_then (named_by copy) found ≡ None) × (is_bad_word copy found ≡ false)
            → (target copy (new i) slot ≡ None) × (is_bad_word copy (slot_word (chunk_words copy (new i)) slot) ≡ false)
        holding found holds both =
            let same = slot_word-copied ∙ holds in
            (ap (option_and_then (named_by copy)) same ∙ both.0, ap (is_bad_word copy) same ∙ both.1)

        by_word : (found : Option ℕ) → slot_word (words i) slot ≡ found → option_and_then (named_by memory) found ≡ None
            → is_bad_word memory found ≡ false
            → (target copy (new i) slot ≡ None) × (is_bad_word copy (slot_word (chunk_words copy (new i)) slot) ≡ false)
        by_word None e n g =
            holding None
            (slot_word-moved_none memory weak marks aligned (words i) (chunk_is memory weak marks aligned chunks sized i m) slot e)
            (refl, refl)
        by_word (Some word) e n g =
            let both = unnamed_value memory copy (value_of word) n g in
            elim (slot_word-moved memory weak marks aligned (words i) (chunk_is memory weak marks aligned chunks sized i m) slot word e) [
              | inl h ↦ holding (Some word) (h.0 ∙ ap (λ (w : ℕ). Some w) (moved_field-unnamed memory marks word n)) both
              | inr h ↦ holding (Some word) (h ∙ ap (λ (w : ℕ). Some w) (moved_weak-unnamed memory marks word weak n)) both
            ]

  -- the compacted memory is a copy
  pub IsCopy-compacted : IsCopy memory copy marks new
  IsCopy-compacted =
      record {
        inside = λ i m. inside-copied memory weak marks aligned chunks sized i m special;
        onto = onto-copied memory weak marks aligned chunks sized special;
        shaped = λ i m.
            subst (IsShapedAs (words i)) (sym (words-copied memory weak marks aligned chunks sized i m special))
            (moved-shaped memory weak marks aligned (words i) (chunk_is memory weak marks aligned chunks sized i m));
        special = λ i found.
            let m : is_marked marks i ≡ true =
            subst (λ (s : ℕ). is_marked marks s ≡ true) (same_Some _ _ (sym reachable.is_special ∙ found)) start_marked in
            subst (λ (a : ℕ). find copy a ≡ Some (new i)) (sym (special_is i found))
            (found-copied memory weak marks aligned chunks sized i m special);
        named = λ i t slot m. named-copied i slot m t;
        others = λ i t slot m. others-copied i slot m t;
        unnamed = λ i slot m. unnamed-copied i slot m;
      }
