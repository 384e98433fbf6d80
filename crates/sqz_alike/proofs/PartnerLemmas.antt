-- Objects that are offered as partners.
-- Serves `partners::partners_of`, the methods of `Matching`, and `objects::slot_matches`.
use Rattle.std.proofs.Common.{◌≡◌, ℕ, zero, suc, ◌+◌, ◌≤◌, Bool, true, false, not, ◌&&◌, ◌||◌, cond, eqb, List, [], ◌∷◌, ◌++◌, length}
use Rattle.std.proofs.Common.{Option, Some, None, refl, sym, ap, ◌∙◌, arith, inl, inr}
use Rattle.std.specs.Prelude.{Contains, is_none, slice_index}
use Rattle.std.proofs.lemmas.Bool.{and_parts, or_cases, eq-eqb, eqb-true}
use Rattle.std.proofs.lemmas.List.{get_or_past, length-append}
use Rattle.std.proofs.lemmas.Option.{none-some}
use Rattle.sqz_image.specs.declared.slot.Slot.{Slot}
use Rattle.sqz_image.specs.declared.slot.Slot.TheVariants.{ClassWord, Field}
use Rattle.sqz_trace.specs.Graph.{is_marked}
use Rattle.sqz_alike.specs.declared.matching.Pair.{Pair}
use Rattle.sqz_alike.specs.Alike.{HasOld, HasNew, IsOneToOne}
use Rattle.sqz_alike.specs.FirstDifference.{any_kind}
use Rattle.sqz_alike.specs.Matching.{IsMatching, are_free, has_new, has_old, partner_in, with_pair}
use Rattle.sqz_alike.specs.Partners.{are_live, are_partners, are_of_one_kind, SeenSides}
use Rattle.sqz_alike.specs.Partners.{offer, offer_both, offer_targets, offer_slots, follow, follow_first, pair_at, common_slots}
use Rattle.sqz_alike.specs.Seen.{Seen, seen_target}
use Rattle.sqz_alike.specs.Walk.{IsLive}
use Rattle.sqz_alike.proofs.MatchingLemmas.{pair_of}

-- ---- whether an object is in a pair

or_second : (first second : Bool) → second ≡ true → (first || second) ≡ true
or_second true second e = refl
or_second false second e = e

has_old-of : (pairs : List Pair) (pair : Pair) → Contains pairs pair → has_old pairs pair.old ≡ true
has_old-of [] pair (k, lt, e) = absurd (omega arith)
has_old-of (first ∷ pairs) pair (zero, lt, e) =
    ap (λ (b : Bool). b || has_old pairs pair.old) (eq-eqb first.old pair.old (ap (λ (p : Pair). p.old) e))
has_old-of (first ∷ pairs) pair (suc k, lt, e) =
    or_second (eqb first.old pair.old) (has_old pairs pair.old) (has_old-of pairs pair (k, omega arith, e))

has_new-of : (pairs : List Pair) (pair : Pair) → Contains pairs pair → has_new pairs pair.new ≡ true
has_new-of [] pair (k, lt, e) = absurd (omega arith)
has_new-of (first ∷ pairs) pair (zero, lt, e) =
    ap (λ (b : Bool). b || has_new pairs pair.new) (eq-eqb first.new pair.new (ap (λ (p : Pair). p.new) e))
has_new-of (first ∷ pairs) pair (suc k, lt, e) =
    or_second (eqb first.new pair.new) (has_new pairs pair.new) (has_new-of pairs pair (k, omega arith, e))

old_in : (pairs : List Pair) (object : ℕ) → has_old pairs object ≡ true → HasOld pairs object
old_in [] object e = absurd cc
old_in (first ∷ pairs) object e =
    elim (or_cases (eqb first.old object) (has_old pairs object) e) [
      | inl here ↦ (first, (zero, omega arith, refl), eqb-true first.old object here)
      | inr later ↦
          let rest = old_in pairs object later in
          (rest.0, (suc (rest.1).0, omega (arith, (rest.1).1), (rest.1).2), rest.2)
    ]

new_in : (pairs : List Pair) (object : ℕ) → has_new pairs object ≡ true → HasNew pairs object
new_in [] object e = absurd cc
new_in (first ∷ pairs) object e =
    elim (or_cases (eqb first.new object) (has_new pairs object) e) [
      | inl here ↦ (first, (zero, omega arith, refl), eqb-true first.new object here)
      | inr later ↦
          let rest = new_in pairs object later in
          (rest.0, (suc (rest.1).0, omega (arith, (rest.1).1), (rest.1).2), rest.2)
    ]

module _ (pairs : List Pair) (new_of old_of : List (Option ℕ)) (matching : IsMatching pairs new_of old_of) where
  no_old : (object : ℕ) → partner_in new_of object ≡ None → (b : Bool) → has_old pairs object ≡ b → b ≡ false
  no_old object none false e = refl
  no_old object none true e =
      let found = old_in pairs object e in
      absurd (none-some (found.0).new (sym none ∙ ap (partner_in new_of) (sym found.2) ∙ matching.old_is found.0 found.1))

  no_new : (object : ℕ) → partner_in old_of object ≡ None → (b : Bool) → has_new pairs object ≡ b → b ≡ false
  no_new object none false e = refl
  no_new object none true e =
      let found = new_in pairs object e in
      absurd (none-some (found.0).old (sym none ∙ ap (partner_in old_of) (sym found.2) ∙ matching.new_is found.0 found.1))

  is_free_old : (object : ℕ) (partner : Option ℕ) → partner_in new_of object ≡ partner → is_none partner ≡ not (has_old pairs object)
  is_free_old object (Some new) e = sym (ap not (has_old-of pairs (pair_of object new) (matching.by_old object new e)))
  is_free_old object None e = sym (ap not (no_old object e (has_old pairs object) refl))

  is_free_new : (object : ℕ) (partner : Option ℕ) → partner_in old_of object ≡ partner → is_none partner ≡ not (has_new pairs object)
  is_free_new object (Some old) e = sym (ap not (has_new-of pairs (pair_of old object) (matching.by_new old object e)))
  is_free_new object None e = sym (ap not (no_new object e (has_new pairs object) refl))

  -- an object is free if it has no partner
  pub free-old : (object : ℕ) → is_none (partner_in new_of object) ≡ not (has_old pairs object)
  free-old object = is_free_old object (partner_in new_of object) refl

  pub free-new : (object : ℕ) → is_none (partner_in old_of object) ≡ not (has_new pairs object)
  free-new object = is_free_new object (partner_in old_of object) refl

  -- objects are free if both have no partner
  pub are_free-is : (pair : Pair) (one other : Bool) → is_none (partner_in new_of pair.old) ≡ one
      → is_none (partner_in old_of pair.new) ≡ other → are_free pairs pair ≡ (one && other)
  are_free-is pair one other e f =
      ap (λ (b : Bool). b && not (has_new pairs pair.new)) (sym (free-old pair.old) ∙ e)
      ∙ ap (λ (b : Bool). one && b) (sym (free-new pair.new) ∙ f)

  -- no object is in two pairs
  pub once : IsOneToOne pairs
  once =
      record {
        by_old = λ one other in_one in_other same.
            same_pair one other same
            (same_partner one.new other.new (sym (matching.old_is one in_one) ∙ ap (partner_in new_of) same ∙ matching.old_is other in_other));
        by_new = λ one other in_one in_other same.
            same_pair one other
            (same_partner one.old other.old (sym (matching.new_is one in_one) ∙ ap (partner_in old_of) same ∙ matching.new_is other in_other)) same;
      }
    where
      same_partner : (one other : ℕ) → Some one ≡ Some other → one ≡ other
      same_partner one other e = cc

      same_pair : (one other : Pair) → one.old ≡ other.old → one.new ≡ other.new → one ≡ other
      same_pair one other old new = ap (λ (n : ℕ). pair_of n one.new) old ∙ ap (pair_of other.old) new

-- ---- what partners are

module _ (sides : SeenSides) (pairs : List Pair) (pair : Pair) (are : are_partners sides pairs pair ≡ true) where
  parts : (are_live sides pair ≡ true) × ((are_free pairs pair && are_of_one_kind sides pair) ≡ true)
  parts = and_parts (are_live sides pair) (are_free pairs pair && are_of_one_kind sides pair) are

  pub IsLive-partners : IsLive sides.old sides.new pair
  IsLive-partners =
      let both = and_parts (is_marked sides.old.marks pair.old) (is_marked sides.new.marks pair.new) parts.0 in
      record { old_is = both.0; new_is = both.1 }

  pub offer-partners : with_pair pairs pair ≡ offer sides pairs pair
  offer-partners =
      ap (λ (b : Bool). cond b (pairs ++ pair ∷ []) pairs)
      ((and_parts (are_free pairs pair) (are_of_one_kind sides pair) parts.1).0 ∙ sym are)

-- of any kind, two live objects become partners unless one of them has one
pub offer-any_kind : (old new : Seen) (pairs : List Pair) (pair : Pair) → IsLive old new pair
    → with_pair pairs pair ≡ offer (any_kind old new) pairs pair
offer-any_kind old new pairs pair live =
    ap (λ (b : Bool). cond b (pairs ++ pair ∷ []) pairs) (sym are)
  where
    one_kind : are_of_one_kind (any_kind old new) pair ≡ true
    one_kind =
        eq-eqb (slice_index [] pair.old) (slice_index [] pair.new)
        (get_or_past [] pair.old 0 (omega arith) ∙ sym (get_or_past [] pair.new 0 (omega arith)))

    and-true : (one other : Bool) → other ≡ true → (one && other) ≡ one
    and-true true other e = e
    and-true false other e = refl

    are : are_partners (any_kind old new) pairs pair ≡ are_free pairs pair
    are = rw (live.old_is, live.new_is) (and-true (are_free pairs pair) (are_of_one_kind (any_kind old new) pair) one_kind)

-- ---- the walk

module _ (sides : SeenSides) where
  -- no pair is taken back
  length-offer : (pairs : List Pair) (pair : Pair) → length pairs ≤ length (offer sides pairs pair)
  length-offer pairs pair = by_test (are_partners sides pairs pair)
    where
      by_test : (b : Bool) → length pairs ≤ length (cond b (pairs ++ pair ∷ []) pairs)
      by_test true = omega (arith, length-append pairs (pair ∷ []))
      by_test false = omega arith

  length-offer_both : (pairs : List Pair) (one other : Option ℕ) → length pairs ≤ length (offer_both sides pairs one other)
  length-offer_both pairs (Some one) (Some other) = length-offer pairs (pair_of one other)
  length-offer_both pairs (Some one) None = omega arith
  length-offer_both pairs None (Some other) = omega arith
  length-offer_both pairs None None = omega arith

  length-offer_targets : (pairs : List Pair) (pair : Pair) (slot : Slot) → length pairs ≤ length (offer_targets sides pairs pair slot)
  length-offer_targets pairs pair slot =
      length-offer_both pairs (seen_target sides.old pair.old slot) (seen_target sides.new pair.new slot)

  pub length-offer_slots : (pairs : List Pair) (pair : Pair) (count : ℕ) → length pairs ≤ length (offer_slots sides pairs pair count)
  length-offer_slots pairs pair zero = length-offer_targets pairs pair ClassWord
  length-offer_slots pairs pair (suc count) =
      let before = length-offer_slots pairs pair count in
      let last = length-offer_targets (offer_slots sides pairs pair count) pair (Field count) in
      omega (arith, before, last)

  -- the slots of one more pair
  pub follow-more : (first pairs after : List Pair) (next : ℕ) (pair : Pair) → pairs ≡ follow_first sides first next
      → pair ≡ pair_at pairs next → after ≡ offer_slots sides pairs pair (common_slots sides pair) → after ≡ follow_first sides first (next + 1)
  follow-more first pairs after next pair e at more =
      let one : suc next ≡ next + 1 = omega arith in
      more
      ∙ ap (λ (p : Pair). offer_slots sides pairs p (common_slots sides p)) at
      ∙ ap (λ (xs : List Pair). follow sides xs next) e
      ∙ ap (follow_first sides first) one

  -- one more field
  pub offer_slots-more : (first pairs after : List Pair) (pair : Pair) (index : ℕ) → pairs ≡ offer_slots sides first pair index
      → after ≡ offer_targets sides pairs pair (Field index) → after ≡ offer_slots sides first pair (index + 1)
  offer_slots-more first pairs after pair index e more =
      let one : suc index ≡ index + 1 = omega arith in
      more
      ∙ ap (λ (xs : List Pair). offer_targets sides xs pair (Field index)) e
      ∙ ap (offer_slots sides first pair) one
