-- The patches of slots one after the other.
-- Serves `pushing::push_fields` and `pushing::push_patches`.
use Rattle.std.proofs.Common.{◌≡◌, ℕ, ◌+◌, ◌-◌, ◌<◌, Bool, true, cond, List, [], ◌∷◌, ◌++◌, map}
use Rattle.std.proofs.Common.{slice_index, Option, IsSome, Contains, refl, sym, ap, ◌∙◌, arith}
use Rattle.std.proofs.lemmas.List.{append-nil, append_assoc, map-append}
use Rattle.std.proofs.lemmas.List.Elements.{filter-append, Contains-append_left, Contains-append_right}
use Rattle.sqz_object.specs.Chunk.{fields}
use Rattle.sqz_image.specs.declared.slot.Slot.{Slot}
use Rattle.sqz_image.specs.declared.slot.Slot.TheVariants.{Field}
use Rattle.sqz_image.specs.Objects.{Memory, Object}
use Rattle.sqz_trace.specs.declared.weak.Weak.{Weak}
use Rattle.sqz_trace.specs.Slots.{traced, field_slots}
use Rattle.sqz_trace.proofs.SlotLemmas.{slot_word-field, field_slots-append, fields-push}
use Rattle.sqz_damage.specs.Words.{slot_index}
use Rattle.sqz_damage.specs.declared.dangling.patch.Patch.{Patch}
use Rattle.sqz_damage.specs.declared.dangling.nil_error.NilError.{NilError}
use Rattle.sqz_damage.specs.declared.dangling.nil_error.NilError.TheVariants.{OutOfMemory, NoNil, NoSpecialObjects}
use Rattle.sqz_damage.specs.Dangling.{is_dangling, is_dangling_word, dangles, dangling_among}
use Rattle.sqz_damage.specs.Patches.{nil_patch, slot_patch, nil_word}
use Rattle.sqz_damage.specs.Pushed.{nil_or_zero, ArePushed, IsPushError, IsMissing}

module _ (memory : Memory) (weak : Weak) (chunk : List ℕ) where
  -- a field dangles if its word leads nowhere
  pub dangles-field : (index : ℕ) → index < traced chunk
      → dangles memory weak chunk (Field index) ≡ is_dangling memory weak (slice_index (fields chunk) index)
  dangles-field index lt = ap (is_dangling_word memory weak) (slot_word-field chunk index lt)

  among : List Slot → List Slot
  among slots = dangling_among memory weak chunk slots

  pub dangling_among-append : (xs ys : List Slot)
      → dangling_among memory weak chunk (xs ++ ys) ≡ dangling_among memory weak chunk xs ++ dangling_among memory weak chunk ys
  dangling_among-append xs ys = filter-append (dangles memory weak chunk) xs ys

  dangling_among-one : (slot : Slot) (answer : Bool) → dangles memory weak chunk slot ≡ answer
      → dangling_among memory weak chunk (slot ∷ []) ≡ cond answer (slot ∷ []) []
  dangling_among-one slot answer is = ap (λ (test : Bool). cond test (slot ∷ []) []) is

  -- one field more
  pub dangling_among-field : (index : ℕ) (answer : Bool) → dangles memory weak chunk (Field index) ≡ answer
      → dangling_among memory weak chunk (field_slots 0 (index + 1))
      ≡ dangling_among memory weak chunk (field_slots 0 index) ++ cond answer (Field index ∷ []) []
  dangling_among-field index answer is =
      ap (dangling_among memory weak chunk) (fields-push index)
      ∙ dangling_among-append (field_slots 0 index) (Field index ∷ [])
      ∙ ap (λ last. dangling_among memory weak chunk (field_slots 0 index) ++ last) (dangling_among-one (Field index) answer is)

  -- a field that dangles is one of the slots that dangle
  pub dangling_among-has : (index count : ℕ) → index < count → dangles memory weak chunk (Field index) ≡ true
      → Contains (dangling_among memory weak chunk (field_slots 0 count)) (Field index)
  dangling_among-has index count lt is =
      let rest = field_slots (0 + (index + 1)) (count - (index + 1)) in
      let all : count ≡ index + 1 + (count - (index + 1)) = omega arith in
      let front = dangling_among memory weak chunk (field_slots 0 index) in
      let parts =
      ap (λ (n : ℕ). dangling_among memory weak chunk (field_slots 0 n)) all
      ∙ ap (dangling_among memory weak chunk) (field_slots-append 0 (index + 1) (count - (index + 1)))
      ∙ dangling_among-append (field_slots 0 (index + 1)) rest
      ∙ ap (λ slots. slots ++ dangling_among memory weak chunk rest) (dangling_among-field index true is)
      in
      rw parts
      (Contains-append_left (front ++ Field index ∷ []) (dangling_among memory weak chunk rest) (Field index)
      (Contains-append_right front (Field index ∷ []) (Field index) (0, omega arith, refl)))

-- ---- patches of slots after others

module _ (nil : Option ℕ) (object : Object) where
  pub ArePushed-none : (items : List Patch) → ArePushed nil object [] items items
  ArePushed-none items = record { pushed = sym (append-nil items); needed = λ none. refl }

  pub ArePushed-append : (xs ys : List Slot) (old middle new : List Patch)
      → ArePushed nil object xs old middle → ArePushed nil object ys middle new → ArePushed nil object (xs ++ ys) old new
  ArePushed-append xs ys old middle new first second =
      let become = slot_patch (nil_or_zero nil) object in
      record {
        pushed =
            second.pushed
            ∙ ap (λ items. items ++ map become ys) first.pushed
            ∙ append_assoc old (map become xs) (map become ys)
            ∙ ap (λ items. old ++ items) (sym (map-append become xs ys));
        needed = λ none. ap (λ slots. slots ++ ys) (first.needed none) ∙ second.needed none;
      }

  -- the patch of one slot
  pub ArePushed-slot : (slot : Slot) (word value : ℕ) (old new : List Patch)
      → word ≡ object.first + slot_index object.chunk slot → value ≡ nil_word (nil_or_zero nil) object.chunk slot
      → new ≡ old ++ nil_patch word value ∷ [] → IsSome nil → ArePushed nil object (slot ∷ []) old new
  ArePushed-slot slot word value old new word_is value_is pushed some =
      let last : ℕ → ℕ → List Patch = λ w v. old ++ nil_patch w v ∷ [] in
      record {
        pushed = pushed ∙ ap (λ (w : ℕ). last w value) word_is ∙ ap (λ (v : ℕ). last (object.first + slot_index object.chunk slot) v) value_is;
        needed = λ none. absurd (let no = rw none at some in cc);
      }

-- ---- why there are no patches

-- a slot that dangles is why there is no patch for it
pub IsPushError-missing : (nil : Option ℕ) (slots : List Slot) (slot : Slot) (error : NilError)
    → Contains slots slot → IsMissing nil error → IsPushError nil slots error
IsPushError-missing nil slots slot OutOfMemory listed missing = tt
IsPushError-missing nil slots slot NoNil listed missing = (missing, (slot, listed))
IsPushError-missing nil slots slot NoSpecialObjects listed missing = missing

-- why there are no patches for some of the slots is why there are none for all
pub IsPushError-wider : (nil : Option ℕ) (slots others : List Slot) (error : NilError)
    → ((slot : Slot) → Contains slots slot → Contains others slot) → IsPushError nil slots error → IsPushError nil others error
IsPushError-wider nil slots others OutOfMemory wider is = tt
IsPushError-wider nil slots others NoNil wider is = (is.0, (is.1.0, wider is.1.0 is.1.1))
IsPushError-wider nil slots others NoSpecialObjects wider is = is
