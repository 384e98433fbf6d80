-- If nothing differs between partners, the images are alike.
-- Serves `laws`.
use Rattle.std.proofs.Common.{◌≡◌, ◌<◌, ℕ, zero, suc, Bool, true, false, cond, List, [], ◌∷◌, ◌++◌, length}
use Rattle.std.proofs.Common.{refl, sym, ap, subst, ◌∙◌, arith, inl, inr}
use Rattle.std.specs.List.{filter}
use Rattle.std.proofs.lemmas.Bool.{cases_eq}
use Rattle.std.proofs.lemmas.List.{get_or_default, map-append}
use Rattle.std.proofs.lemmas.List.Elements.{filter-append}
use Rattle.sqz_image.specs.declared.slot.Slot.{Slot}
use Rattle.sqz_image.specs.declared.slot.Slot.TheVariants.{ClassWord, Field}
use Rattle.sqz_trace.specs.Slots.{slot_word, traced}
use Rattle.sqz_alike.specs.declared.matching.Pair.{Pair}
use Rattle.sqz_alike.specs.Alike.{AreAlike, HasRoots, IsOneToOne, ObjectsMatch, SlotMatches, WordsMatch}
use Rattle.sqz_alike.specs.Partners.{pair_at}
use Rattle.sqz_alike.specs.Seen.{seen_target}
use Rattle.sqz_alike.proofs.MatchingLemmas.{pair_of}
use Rattle.sqz_alike.proofs.WalkLemmas.{all_slots}
use Rattle.sqz_changes.specs.declared.place.Difference.{Difference}
use Rattle.sqz_changes.specs.declared.place.Place.{Place}
use Rattle.sqz_changes.specs.declared.place.Place.TheVariants.{Header, Hash, Words, Trailer, Slot as At}
use Rattle.sqz_changes.specs.Compared.{Compared, common_fields, new_chunk, old_chunk}
use Rattle.sqz_changes.specs.Differences.{at_places, common_slots, differences, differs, first_places, places_of, slot_differs, slot_places, slots_to}
use Rattle.sqz_changes.specs.Laws.{AreAllPaired}
use Rattle.sqz_changes.proofs.SameLemmas.{slots-match, words-match}

-- ---- filters that leave nothing

no-parts : {A : Type 0} (xs ys : List A) → xs ++ ys ≡ [] → (xs ≡ []) × (ys ≡ [])
no-parts [] ys e = (refl, e)
no-parts (x ∷ xs) ys e = absurd cc

no-append : {A : Type 0} (p : A → Bool) (xs ys : List A) → filter p (xs ++ ys) ≡ [] → (filter p xs ≡ []) × (filter p ys ≡ [])
no-append p xs ys e = no-parts (filter p xs) (filter p ys) (sym (filter-append p xs ys) ∙ e)

no-first : {A : Type 0} (p : A → Bool) (x : A) (xs : List A) → filter p (x ∷ xs) ≡ [] → (p x ≡ false) × (filter p xs ≡ [])
no-first {A} p x xs e = by (p x) refl e
  where
    by : (b : Bool) → p x ≡ b → cond b (x ∷ filter p xs) (filter p xs) ≡ [] → (p x ≡ false) × (filter p xs ≡ [])
    by true f e = absurd cc
    by false f e = (f, e)

module _ (c : Compared) where
  no-places : (count : ℕ) → filter (differs c) (first_places c count) ≡ [] → (index : ℕ) → index < count → filter (differs c) (places_of c index) ≡ []
  no-places zero e index lt = absurd (omega arith)
  no-places (suc count) e index lt =
      let parts = no-append (differs c) (first_places c count) (places_of c count) e in
      elim (cases_eq index count) [
        | inl here ↦ ap (λ (n : ℕ). filter (differs c) (places_of c n)) here ∙ parts.1
        | inr apart ↦ no-places count parts.0 index (omega (arith, apart, lt))
      ]

  abbrev at_slots : ℕ → List Slot → List Difference
  at_slots index slots = at_places index (slot_places slots)

  at_slots-append : (index : ℕ) (xs ys : List Slot) → at_slots index (xs ++ ys) ≡ at_slots index xs ++ at_slots index ys
  at_slots-append index xs ys =
      ap (at_places index) (map-append (λ (slot : Slot). At slot) xs ys)
      ∙ map-append (λ (place : Place). record { pair = index; place = place }) (slot_places xs) (slot_places ys)

  -- no slot differs
  no-slots : (index count : ℕ) → filter (differs c) (at_slots index (slots_to count)) ≡ []
      → (slot_differs c (pair_at c.pairs index) ClassWord ≡ false)
      × ((field : ℕ) → field < count → slot_differs c (pair_at c.pairs index) (Field field) ≡ false)
  no-slots index zero e = ((no-first (differs c) (record { pair = index; place = At ClassWord }) [] e).0, λ field lt. absurd (omega (arith, lt)))
  no-slots index (suc count) e =
      let parts = no-append (differs c) (at_slots index (slots_to count)) (at_slots index (Field count ∷ []))
      (ap (filter (differs c)) (sym (at_slots-append index (slots_to count) (Field count ∷ []))) ∙ e) in
      let before = no-slots index count parts.0 in
      let last = (no-first (differs c) (record { pair = index; place = At (Field count) }) [] parts.1).0 in (
        before.0,
        λ field lt.
            elim (cases_eq field count) [
              | inl here ↦ ap (λ (n : ℕ). slot_differs c (pair_at c.pairs index) (Field n)) here ∙ last
              | inr apart ↦ before.1 field (omega (arith, apart, lt))
            ],
      )

  -- the objects of a pair that does not differ match
  pair-matches : (index : ℕ) → filter (differs c) (places_of c index) ≡ [] → ObjectsMatch c.old c.new c.pairs (pair_at c.pairs index)
  pair-matches index e =
      let pair : Pair = pair_at c.pairs index in
      let at : Place → Difference = λ place. record { pair = index; place = place } in
      let rest : List Difference = at_slots index (common_slots c index) in
      let header = no-first (differs c) (at Header) (at Hash ∷ at Words ∷ at Trailer ∷ rest) e in
      let hash = no-first (differs c) (at Hash) (at Words ∷ at Trailer ∷ rest) header.1 in
      let words = no-first (differs c) (at Words) (at Trailer ∷ rest) hash.1 in
      let trailer = no-first (differs c) (at Trailer) rest words.1 in
      let slots = no-slots index (common_fields c pair) trailer.1 in
      let match : WordsMatch c.old.memory.order c.new.memory.order (old_chunk c pair) (new_chunk c pair) =
      words-match c.old.memory.order c.new.memory.order (old_chunk c pair) (new_chunk c pair) header.0 hash.0 words.0 trailer.0 in
      record {
        words = match;
        slots = all_slots c.old c.new c.pairs pair (traced (old_chunk c pair)) refl match.traced (record {
          class = slot-matches pair ClassWord slots.0;
          fields = λ field lt. slot-matches pair (Field field) (slots.1 field (omega (arith, lt, match.traced)));
        });
      }
    where
      slot-matches : (pair : Pair) (slot : Slot) → slot_differs c pair slot ≡ false → SlotMatches c.old c.new c.pairs pair slot
      slot-matches pair slot e =
          slots-match c.pairs (seen_target c.old pair.old slot) (seen_target c.new pair.new slot)
          (slot_word (old_chunk c pair) slot) (slot_word (new_chunk c pair) slot) e

  -- the images are alike
  pub alike : HasRoots c.old c.new c.pairs → IsOneToOne c.pairs → AreAllPaired c → differences c ≡ [] → AreAlike c.old c.new
  alike roots once all none = record {
    pairs = c.pairs;
    correspond = record {
      roots = roots;
      once = once;
      all_old = all.old;
      all_new = all.new;
      each = λ pair paired.
          let at : pair_at c.pairs paired.0 ≡ pair = get_or_default c.pairs paired.0 (pair_of 0 0) pair paired.1 ∙ paired.2 in
          subst (ObjectsMatch c.old c.new c.pairs) at (pair-matches paired.0 (no-places (length c.pairs) none paired.0 paired.1));
    };
  }
