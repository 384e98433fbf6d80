-- Differences that are added to the shown and the quiet ones.
-- Serves the methods of `Tallies` and `changes::changes_between`.
use Rattle.std.proofs.Common.{◌≡◌, ℕ, suc, ◌+◌, Bool, true, false, not, cond, List, [], ◌∷◌, ◌++◌, length}
use Rattle.std.proofs.Common.{refl, sym, ap, ◌∙◌, arith}
use Rattle.std.specs.Prelude.{slice_index_or}
use Rattle.std.specs.List.{filter}
use Rattle.std.proofs.lemmas.List.{map-append}
use Rattle.sqz_image.specs.declared.slot.Slot.{Slot}
use Rattle.sqz_image.specs.declared.slot.Slot.TheVariants.{Field}
use Rattle.sqz_changes.specs.declared.change.Change.{Change}
use Rattle.sqz_changes.specs.declared.place.Difference.{Difference}
use Rattle.sqz_changes.specs.declared.place.Place.{Place}
use Rattle.sqz_changes.specs.declared.place.Place.TheVariants.{Slot as At}
use Rattle.sqz_changes.specs.Changes.{quiet_changes, shown_changes, with_difference, with_differences}
use Rattle.sqz_changes.specs.Compared.{Compared}
use Rattle.sqz_changes.specs.Differences.{at_places, common_slots, differs, first_places, is_quiet, is_shown, places, places_of, slot_places, slots_to}
use Rattle.sqz_changes.specs.Owners.{owners}
use Rattle.sqz_changes.specs.Tallies.{Tallied, none, with_place_of, with_places, with_places_of}

abbrev tallied_of : List Change → List Change → Tallied
tallied_of shown quiet = record { shown = shown; quiet = quiet }

-- ---- more places

pub with_places_of-append : (c : Compared) (owner : ℕ) (xs ys : List Difference) (tallied : Tallied)
    → with_places_of c owner (xs ++ ys) tallied ≡ with_places_of c owner ys (with_places_of c owner xs tallied)
with_places_of-append c owner [] ys tallied = refl
with_places_of-append c owner (x ∷ xs) ys tallied = with_places_of-append c owner xs ys (with_place_of c owner x tallied)

pub with_places-append : (c : Compared) (owners : List ℕ) (xs ys : List Difference) (tallied : Tallied)
    → with_places c owners (xs ++ ys) tallied ≡ with_places c owners ys (with_places c owners xs tallied)
with_places-append c owners [] ys tallied = refl
with_places-append c owners (x ∷ xs) ys tallied =
    with_places-append c owners xs ys (with_place_of c (slice_index_or owners x.pair 0) x tallied)

-- places of one pair have one owner
pub with_places-pair : (c : Compared) (owners : List ℕ) (index : ℕ) (places : List Place) (tallied : Tallied)
    → with_places c owners (at_places index places) tallied ≡ with_places_of c (slice_index_or owners index 0) (at_places index places) tallied
with_places-pair c owners index [] tallied = refl
with_places-pair c owners index (place ∷ places) tallied =
    with_places-pair c owners index places
    (with_place_of c (slice_index_or owners index 0) (record { pair = index; place = place }) tallied)

abbrev at_slots : ℕ → List Slot → List Difference
at_slots index slots = at_places index (slot_places slots)

-- one more field
pub slots-more : (c : Compared) (owner index count : ℕ) (tallied : Tallied)
    → with_place_of c owner (record { pair = index; place = At (Field count) }) (with_places_of c owner (at_slots index (slots_to count)) tallied)
    ≡ with_places_of c owner (at_slots index (slots_to (count + 1))) tallied
slots-more c owner index count tallied =
    let one : count + 1 ≡ suc count = omega arith in
    sym (with_places_of-append c owner (at_slots index (slots_to count)) (record { pair = index; place = At (Field count) } ∷ []) tallied)
    ∙ ap (λ (places : List Difference). with_places_of c owner places tallied)
    (sym (map-append (λ (place : Place). record { pair = index; place = place }) (slot_places (slots_to count)) (At (Field count) ∷ []))
    ∙ ap (at_places index) (sym (map-append (λ (slot : Slot). At slot) (slots_to count) (Field count ∷ [])))
    ∙ sym (ap (λ (n : ℕ). at_slots index (slots_to n)) one))

-- one more pair
pub pairs-more : (c : Compared) (owners : List ℕ) (owner index : ℕ) (before after first : Tallied) → before ≡ with_places c owners (first_places c index) first
    → owner ≡ slice_index_or owners index 0 → after ≡ with_places_of c owner (places_of c index) before
    → after ≡ with_places c owners (first_places c (index + 1)) first
pairs-more c owners owner index before after first e at more =
    let one : suc index ≡ index + 1 = omega arith in
    more
    ∙ ap (λ (o : ℕ). with_places_of c o (places_of c index) before) at
    ∙ sym (with_places-pair c owners index (places (common_slots c index)) before)
    ∙ ap (with_places c owners (places_of c index)) e
    ∙ sym (with_places-append c owners (first_places c index) (places_of c index) first)
    ∙ ap (λ (n : ℕ). with_places c owners (first_places c n) first) one

-- ---- the changes

module _ (c : Compared) (owners : List ℕ) where
  abbrev after_shown : List Change → List Difference → List Change
  after_shown changes differences = with_differences owners changes (filter (is_shown c) differences)

  abbrev after_quiet : List Change → List Difference → List Change
  after_quiet changes differences = with_differences owners changes (filter (is_quiet c) differences)

  abbrev owner_of : Difference → ℕ
  owner_of at = slice_index_or owners at.pair 0

  -- one more difference counts for the one or the other
  counts : (at : Difference) (rest : List Difference) (shown quiet : List Change) (b : Bool) → is_quiet c at ≡ b
      → tallied_of (after_shown (cond b shown (with_difference (owner_of at) at shown)) rest)
      (after_quiet (cond b (with_difference (owner_of at) at quiet) quiet) rest)
      ≡ tallied_of (after_shown shown (at ∷ rest)) (after_quiet quiet (at ∷ rest))
  counts at rest shown quiet true e =
      sym (ap (λ (b : Bool). tallied_of
      (with_differences owners shown (cond (not b) (at ∷ filter (is_shown c) rest) (filter (is_shown c) rest)))
      (with_differences owners quiet (cond b (at ∷ filter (is_quiet c) rest) (filter (is_quiet c) rest)))) e)
  counts at rest shown quiet false e =
      sym (ap (λ (b : Bool). tallied_of
      (with_differences owners shown (cond (not b) (at ∷ filter (is_shown c) rest) (filter (is_shown c) rest)))
      (with_differences owners quiet (cond b (at ∷ filter (is_quiet c) rest) (filter (is_quiet c) rest)))) e)

  one_more : (at : Difference) (places rest : List Difference) (shown quiet : List Change) (is_different b : Bool) → is_quiet c at ≡ b
      → ((shown quiet : List Change) → with_places c owners places (tallied_of shown quiet) ≡ tallied_of (after_shown shown rest) (after_quiet quiet rest))
      → with_places c owners places
      (cond is_different (cond b (tallied_of shown (with_difference (owner_of at) at quiet)) (tallied_of (with_difference (owner_of at) at shown) quiet))
      (tallied_of shown quiet))
      ≡ tallied_of (after_shown shown (cond is_different (at ∷ rest) rest)) (after_quiet quiet (cond is_different (at ∷ rest) rest))
  one_more at places rest shown quiet false b e later = later shown quiet
  one_more at places rest shown quiet true true e later = later shown (with_difference (owner_of at) at quiet) ∙ counts at rest shown quiet true e
  one_more at places rest shown quiet true false e later = later (with_difference (owner_of at) at shown) quiet ∙ counts at rest shown quiet false e

  -- the shown differences are counted apart from the quiet ones
  tallied-changes : (places : List Difference) (shown quiet : List Change)
      → with_places c owners places (tallied_of shown quiet)
      ≡ tallied_of (after_shown shown (filter (differs c) places)) (after_quiet quiet (filter (differs c) places))
  tallied-changes [] shown quiet = refl
  tallied-changes (at ∷ places) shown quiet =
      one_more at places (filter (differs c) places) shown quiet (differs c at) (is_quiet c at) refl (λ one other. tallied-changes places one other)

-- what is tallied after all pairs
pub changes-are : (c : Compared) (list : List ℕ) (count : ℕ) (tallied : Tallied) → tallied ≡ with_places c list (first_places c count) none
    → count ≡ length c.pairs → list ≡ owners c → tallied ≡ tallied_of (shown_changes c) (quiet_changes c)
changes-are c list count tallied e all same =
    e
    ∙ ap (λ (n : ℕ). with_places c list (first_places c n) none) all
    ∙ ap (λ (os : List ℕ). with_places c os (first_places c (length c.pairs)) none) same
    ∙ tallied-changes c (owners c) (first_places c (length c.pairs)) [] []
