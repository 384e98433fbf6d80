-- Images of which the same is written are alike.
-- Serves `laws`.
use Rattle.std.proofs.Common.{◌≡◌, ℕ, zero, suc, ◌+◌, ◌<◌, ◌^◌, true, nat_eq, List, [], ◌∷◌, ◌++◌, length, take, drop, get_or, slice_index}
use Rattle.std.proofs.Common.{Option, Some, None, refl, sym, ap, subst, ◌∙◌, arith, inl, inr, IfSome}
use Rattle.std.specs.Prelude.{All, Contains, option_to_list}
use Rattle.std.specs.List.{AllZip, AllByRecursion, concat}
use Rattle.std.proofs.lemmas.Bool.{cases_lt, ne_eqb, eq-eqb, eqb-true}
use Rattle.std.proofs.lemmas.Bool.Decides.{Decides-eqb}
use Rattle.std.proofs.lemmas.List.{get_or_past, get_or-take, get_or-drop, length-take}
use Rattle.std.proofs.lemmas.List.Elements.{All-nil, AllZip-get_or, length_all_zip}
use Rattle.std.proofs.lemmas.List.Sums.{position_or_len_is, passes_at_first}
use Rattle.std.proofs.lemmas.Map.Made.{AllPairs-from_IsDistinct}
use Rattle.sqz_image.specs.declared.slot.Slot.{Slot}
use Rattle.sqz_image.specs.declared.slot.Slot.TheVariants.{ClassWord, Field}
use Rattle.sqz_image.specs.Objects.{Memory, Object, objects, object_count, object_at, chunk_words, find}
use Rattle.sqz_image.proofs.ObjectLemmas.{StandsIn, objects_stand, All_at}
use Rattle.sqz_trace.specs.declared.live_objects.Live.{Live}
use Rattle.sqz_trace.specs.Graph.{is_marked}
use Rattle.sqz_trace.specs.Reachability.{IsReachability}
use Rattle.sqz_trace.specs.Slots.{slot_word, traced, field_slots}
use Rattle.sqz_alike.specs.declared.matching.Pair.{Pair}
use Rattle.sqz_alike.specs.Alike.{SlotsMatch, SlotMatches, ObjectsMatch, IsOneToOne, AreAlike}
use Rattle.sqz_alike.specs.Seen.{seen, seen_target}
use Rattle.sqz_alike.proofs.CorrespondenceLemmas.{has_each, leads_old, leads_new}
use Rattle.sqz_alike.proofs.MatchingLemmas.{pair_of}
use Rattle.sqz_alike.proofs.WalkLemmas.{all_slots}
use Rattle.sqz_alike.specs.Found.{place_of, found_after, in_order}
use Rattle.sqz_alike.specs.Numbering.{AreSomeOf}
use Rattle.sqz_alike.specs.Written.{slot_words, slot_bytes, object_bytes, written}
use Rattle.sqz_alike.proofs.ClosureLemmas.{Has, LeadsIn, found_after-more, in_order-closed}
use Rattle.sqz_alike.proofs.FoundLemmas.{found_after-along, found_after-once, found_after-length}
use Rattle.sqz_alike.proofs.PlaceLemmas.{with_object-all}
use Rattle.sqz_alike.proofs.ReadLemmas.{IsSmall, AreWrittenAlike, split_all, object-split, length-object_bytes, words-match, slot_words-read}

-- ---- the objects at the same places

zip_pairs : List ℕ → List ℕ → List Pair
zip_pairs [] ys = []
zip_pairs (x ∷ xs) [] = []
zip_pairs (x ∷ xs) (y ∷ ys) = pair_of x y ∷ zip_pairs xs ys

length-zip_pairs : (xs ys : List ℕ) → length xs ≡ length ys → length (zip_pairs xs ys) ≡ length xs
unfolding zip_pairs
length-zip_pairs [] ys long = refl
length-zip_pairs (x ∷ xs) [] long = absurd (omega arith)
length-zip_pairs (x ∷ xs) (y ∷ ys) long = ap suc (length-zip_pairs xs ys (omega arith))

get_or-zip_pairs : (xs ys : List ℕ) (k : ℕ) (d : Pair) → length xs ≡ length ys → k < length xs
    → get_or (zip_pairs xs ys) k d ≡ pair_of (get_or xs k 0) (get_or ys k 0)
unfolding zip_pairs
get_or-zip_pairs [] ys k d long lt = absurd (omega arith)
get_or-zip_pairs (x ∷ xs) [] k d long lt = absurd (omega arith)
get_or-zip_pairs (x ∷ xs) (y ∷ ys) zero d long lt = refl
get_or-zip_pairs (x ∷ xs) (y ∷ ys) (suc k) d long lt = get_or-zip_pairs xs ys k d (omega arith) (omega arith)

module _ (xs ys : List ℕ) (long : length xs ≡ length ys) where
  paired_at : (k : ℕ) → k < length xs → Contains (zip_pairs xs ys) (pair_of (get_or xs k 0) (get_or ys k 0))
  paired_at k lt = (k, omega (arith, lt, length-zip_pairs xs ys long), get_or-zip_pairs xs ys k (pair_of (get_or xs k 0) (get_or ys k 0)) long lt)

  place_in : (pair : Pair) → Contains (zip_pairs xs ys) pair → (k : ℕ) × (k < length xs) × (pair_of (get_or xs k 0) (get_or ys k 0) ≡ pair)
  place_in pair (k, lt, at) =
      let inside : k < length xs = omega (arith, lt, length-zip_pairs xs ys long) in
      (k, inside, sym (get_or-zip_pairs xs ys k pair long inside) ∙ at)

-- ---- places

-- each found object is at its place
place_of-at : (count : ℕ) (found : List ℕ) → AreSomeOf count found → (k : ℕ) → k < length found → place_of found (get_or found k 0) ≡ k
place_of-at count found is k lt =
    position_or_len_is (nat_eq (get_or found k 0)) found k 0 (omega arith)
    (λ j below. ne_eqb (get_or found k 0) (get_or found j 0) (λ same. AllPairs-from_IsDistinct Decides-eqb found is.distinct j k 0 below lt (sym same)))
    (λ inside. eq-eqb (get_or found k 0) (get_or found k 0) refl)

at-place_of : (found : List ℕ) (object : ℕ) → Has found object → get_or found (place_of found object) 0 ≡ object
at-place_of found object has =
    sym (eqb-true object (get_or found (place_of found object) 0) (passes_at_first (nat_eq object) found 0 has.before_end))

same_place : (count : ℕ) (found : List ℕ) → AreSomeOf count found → (j k : ℕ) → j < length found → k < length found
    → get_or found j 0 ≡ get_or found k 0 → j ≡ k
same_place count found is j k lt lt' same =
    sym (place_of-at count found is j lt) ∙ ap (place_of found) same ∙ place_of-at count found is k lt'

-- ---- slots

module _ (xs ys : List ℕ) (long : length xs ≡ length ys) where
  abbrev pairs : List Pair
  pairs = zip_pairs xs ys

  slots-match : (one two word other : Option ℕ) → IfSome one (Has xs) → IfSome two (Has ys) → slot_words xs one word ≡ slot_words ys two other
      → SlotsMatch pairs one two word other
  slots-match (Some a) (Some b) word other has other_has same =
      let place : place_of xs a ≡ place_of ys b = ap (λ (words : List ℕ). slice_index words 1) same in
      let old : get_or xs (place_of xs a) 0 ≡ a = at-place_of xs a has in
      let new : get_or ys (place_of xs a) 0 ≡ b = ap (λ (k : ℕ). get_or ys k 0) place ∙ at-place_of ys b other_has in
      subst (Contains pairs) (ap (λ (n : ℕ). pair_of n (get_or ys (place_of xs a) 0)) old ∙ ap (pair_of a) new)
      (paired_at xs ys long (place_of xs a) has.before_end)
  slots-match (Some a) None word (Some other) has other_has same =
      absurd (omega (arith, ap (λ (words : List ℕ). slice_index words 0) same))
  slots-match (Some a) None word None has other_has same = absurd (omega (arith, ap length same))
  slots-match None (Some b) (Some word) other has other_has same =
      absurd (omega (arith, ap (λ (words : List ℕ). slice_index words 0) same))
  slots-match None (Some b) None other has other_has same = absurd (omega (arith, ap length same))
  slots-match None None (Some word) (Some other) has other_has same =
      ap (λ (words : List ℕ). Some (slice_index words 1)) same
  slots-match None None (Some word) None has other_has same = absurd (omega (arith, ap length same))
  slots-match None None None (Some other) has other_has same = absurd (omega (arith, ap length same))
  slots-match None None None None has other_has same = refl

-- what holds of the slots of fields holds of each
all_fields : (P : Slot → Type 0) (first count : ℕ) → AllByRecursion P (field_slots first count) → (index : ℕ) → index < count → P (Field (first + index))
all_fields P first zero all index lt = absurd (omega arith)
all_fields P first (suc count) all zero lt =
    let same : first ≡ first + 0 = omega arith in
    subst (λ (n : ℕ). P (Field n)) same all.0
all_fields P first (suc count) all (suc index) lt =
    let same : suc first + index ≡ first + suc index = omega arith in
    subst (λ (n : ℕ). P (Field n)) same (all_fields P (suc first) count all.1 index (omega arith))

field_of : (P : Slot → Type 0) (count : ℕ) → AllByRecursion P (field_slots 0 count) → (index : ℕ) → index < count → P (Field index)
field_of P count all index lt =
    let same : 0 + index ≡ index = omega arith in
    subst (λ (n : ℕ). P (Field n)) same (all_fields P 0 count all index lt)

-- ---- the words of an image

AreWords-part : (words : List ℕ) (first count : ℕ) → ((k : ℕ) → slice_index words k < 2 ^ 32) → (k : ℕ) → slice_index (take count (drop first words)) k < 2 ^ 32
AreWords-part words first count each k =
    elim (cases_lt k count) [
      | inl below ↦ rw (get_or-take count (drop first words) k 0 below) (rw (get_or-drop first words k 0) (each (first + k)))
      | inr past ↦ rw (get_or_past (take count (drop first words)) k 0 (omega (arith, length-take count (drop first words)))) (omega arith)
    ]

pub chunks-small : (memory : Memory) → length (concat memory.chunks) < 2 ^ 30 → ((k : ℕ) → slice_index (concat memory.chunks) k < 2 ^ 32)
    → (object : ℕ) → IsSmall (chunk_words memory object)
chunks-small memory few each object =
    let words = concat memory.chunks in
    let none : Object = record { first = 0; chunk = [] } in
    elim (cases_lt object (length (objects memory))) [
      | inl inside ↦
          let stands = All_at (StandsIn words) (objects memory) object none inside (objects_stand memory.chunks) in
          let it = object_at memory object in
          record {
            words = record {
              each = λ k. subst (λ (chunk : List ℕ). slice_index chunk k < 2 ^ 32) stands.there (AreWords-part words it.first (length it.chunk) each k);
            };
            few = omega (arith, stands.inside, few);
          }
      | inr past ↦
          let empty : chunk_words memory object ≡ [] = ap (λ (o : Object). o.chunk) (get_or_past (objects memory) object none past) in
          subst IsSmall (sym empty) (record { words = record { each = λ k. omega arith }; few = omega arith })
    ]

-- ---- what is found

in_order-live : (live : Live) → All (λ object. is_marked live.marks object ≡ true) (in_order (seen live))
in_order-live live =
    let marked : ℕ → Type 0 = λ object. is_marked live.marks object ≡ true in
    found_after-along live (All marked) (λ found object is all. with_object-all marked found object is all) (All-nil marked) (object_count live.graph.heap.now)

-- the special objects array is found first
first-found : (live : Live) (start : ℕ) → find live.graph.heap.now live.graph.heap.now.special ≡ Some start
    → (0 < length (in_order (seen live))) × (get_or (in_order (seen live)) 0 0 ≡ start)
first-found live start is =
    let count = object_count live.graph.heap.now in
    let more = found_after-more (seen live) 0 count in
    let none : 0 + count ≡ count = omega arith in
    let whole : in_order (seen live) ≡ (start ∷ []) ++ more.0 =
    ap (found_after (seen live)) (sym none)
    ∙ more.1
    ∙ ap (λ (special : Option ℕ). option_to_list special ++ more.0) is in
    (omega (arith, ap length whole), ap (λ (found : List ℕ). get_or found 0 0) whole)

-- ---- the images

module _ (one other : Live) (small : (object : ℕ) → IsSmall (chunk_words one.graph.heap.now object))
    (other_small : (object : ℕ) → IsSmall (chunk_words other.graph.heap.now object)) (few : object_count one.graph.heap.now < 2 ^ 30)
    (other_few : object_count other.graph.heap.now < 2 ^ 30) (same : written (seen one) ≡ written (seen other)) where
  abbrev xs : List ℕ
  xs = in_order (seen one)

  abbrev ys : List ℕ
  ys = in_order (seen other)

  all : AllZip (AreWrittenAlike (seen one) (seen other) xs ys) xs ys
  all =
      split_all (AreWrittenAlike (seen one) (seen other) xs ys) (object_bytes (seen one) xs) (object_bytes (seen other) ys)
      (length-object_bytes (seen one) xs) (length-object_bytes (seen other) ys)
      (λ x y s t. object-split (seen one) (seen other) xs ys x y s t (small x) (other_small y)) xs ys same

  long : length xs ≡ length ys
  long = length_all_zip (AreWrittenAlike (seen one) (seen other) xs ys) xs ys all

  once : AreSomeOf (object_count one.graph.heap.now) xs
  once = found_after-once one (object_count one.graph.heap.now)

  other_once : AreSomeOf (object_count other.graph.heap.now) ys
  other_once = found_after-once other (object_count other.graph.heap.now)

  module _ (k : ℕ) (inside : k < length xs) where
    abbrev x : ℕ
    x = get_or xs k 0

    abbrev y : ℕ
    y = get_or ys k 0

    alike : AreWrittenAlike (seen one) (seen other) xs ys x y
    alike = AllZip-get_or (AreWrittenAlike (seen one) (seen other) xs ys) xs ys k 0 0 all inside

    slot-matches : (slot : Slot) → LeadsIn (seen one) x xs slot → LeadsIn (seen other) y ys slot
        → slot_bytes (seen one) xs x slot ≡ slot_bytes (seen other) ys y slot → SlotMatches (seen one) (seen other) (zip_pairs xs ys) (pair_of x y) slot
    slot-matches slot leads other_leads equal =
        slots-match xs ys long (seen_target (seen one) x slot) (seen_target (seen other) y slot)
        (slot_word (chunk_words one.graph.heap.now x) slot) (slot_word (chunk_words other.graph.heap.now y) slot) leads other_leads
        (slot_words-read (seen one) (seen other) xs ys x y (small x).words (other_small y).words
        (omega (arith, found_after-length one (object_count one.graph.heap.now), few))
        (omega (arith, found_after-length other (object_count other.graph.heap.now), other_few)) slot equal)

    matches : ObjectsMatch (seen one) (seen other) (zip_pairs xs ys) (pair_of x y)
    matches =
        let words = words-match (seen one) (seen other) xs ys x y (small x) (other_small y) alike in
        let count = traced (chunk_words one.graph.heap.now x) in
        let other_count = traced (chunk_words other.graph.heap.now y) in
        let leads = in_order-closed one k inside in
        let other_leads = in_order-closed other k (omega (arith, inside, long)) in
        record {
          words = words;
          slots = all_slots (seen one) (seen other) (zip_pairs xs ys) (pair_of x y) count refl words.traced record {
            class = slot-matches ClassWord leads.0 other_leads.0 alike.slots.0;
            fields = λ index lt.
                slot-matches (Field index) (field_of (LeadsIn (seen one) x xs) count leads.1 index lt)
                (field_of (LeadsIn (seen other) y ys) other_count other_leads.1 index (omega (arith, lt, words.traced)))
                (field_of (λ slot. slot_bytes (seen one) xs x slot ≡ slot_bytes (seen other) ys y slot) count alike.slots.1 index lt);
          };
        }

  each : (pair : Pair) → Contains (zip_pairs xs ys) pair → ObjectsMatch (seen one) (seen other) (zip_pairs xs ys) pair
  each pair paired =
      let at = place_in xs ys long pair paired in
      subst (ObjectsMatch (seen one) (seen other) (zip_pairs xs ys)) at.2 (matches at.0 at.1)

  one_to_one : IsOneToOne (zip_pairs xs ys)
  one_to_one =
      record {
        by_old = λ p q in_p in_q equal.
            let at = place_in xs ys long p in_p in
            let at' = place_in xs ys long q in_q in
            let place : at.0 ≡ at'.0 =
            same_place (object_count one.graph.heap.now) xs once at.0 at'.0 at.1 at'.1
            (ap (λ (r : Pair). r.old) at.2 ∙ equal ∙ sym (ap (λ (r : Pair). r.old) at'.2)) in
            sym at.2 ∙ ap (λ (k : ℕ). pair_of (get_or xs k 0) (get_or ys k 0)) place ∙ at'.2;
        by_new = λ p q in_p in_q equal.
            let at = place_in xs ys long p in_p in
            let at' = place_in xs ys long q in_q in
            let place : at.0 ≡ at'.0 =
            same_place (object_count other.graph.heap.now) ys other_once at.0 at'.0 (omega (arith, at.1, long)) (omega (arith, at'.1, long))
            (ap (λ (r : Pair). r.new) at.2 ∙ equal ∙ sym (ap (λ (r : Pair). r.new) at'.2)) in
            sym at.2 ∙ ap (λ (k : ℕ). pair_of (get_or xs k 0) (get_or ys k 0)) place ∙ at'.2;
      }

  live_old : (pair : Pair) → Contains (zip_pairs xs ys) pair → is_marked one.marks pair.old ≡ true
  live_old pair paired =
      let at = place_in xs ys long pair paired in
      subst (λ (p : Pair). is_marked one.marks p.old ≡ true) at.2 (in_order-live one at.0 0 at.1)

  live_new : (pair : Pair) → Contains (zip_pairs xs ys) pair → is_marked other.marks pair.new ≡ true
  live_new pair paired =
      let at = place_in xs ys long pair paired in
      subst (λ (p : Pair). is_marked other.marks p.new ≡ true) at.2 (in_order-live other at.0 0 (omega (arith, at.1, long)))

  module _ (is : IsReachability one.graph.heap.now one.graph.weak one.marks)
      (other_is : IsReachability other.graph.heap.now other.graph.weak other.marks) where
    abbrev roots : Pair
    roots = pair_of is.start other_is.start

    roots_paired : Contains (zip_pairs xs ys) roots
    roots_paired =
        let first = first-found one is.start is.is_special in
        let other_first = first-found other other_is.start other_is.is_special in
        subst (Contains (zip_pairs xs ys)) (ap (λ (n : ℕ). pair_of n (get_or ys 0 0)) first.1 ∙ ap (pair_of is.start) other_first.1)
        (paired_at xs ys long 0 first.0)

    pub written-alike : AreAlike (seen one) (seen other)
    written-alike =
        record {
          pairs = zip_pairs xs ys;
          correspond = record {
            roots = record { roots = roots; old_is = is.is_special; new_is = other_is.is_special; paired = roots_paired };
            once = one_to_one;
            all_old = λ object. (
              has_each (seen one) (zip_pairs xs ys) (λ pair. pair.old)
                  (λ pair paired slot next points. leads_old _ _ (zip_pairs xs ys) _ _ next points ((each pair paired).slots slot))
                  is is.start is.is_special (roots, roots_paired, refl) (live_old roots roots_paired) object,
              λ has. subst (λ (o : ℕ). is_marked one.marks o ≡ true) has.2 (live_old has.0 has.1),
            );
            all_new = λ object. (
              has_each (seen other) (zip_pairs xs ys) (λ pair. pair.new)
                  (λ pair paired slot next points. leads_new _ _ (zip_pairs xs ys) _ _ next points ((each pair paired).slots slot))
                  other_is other_is.start other_is.is_special (roots, roots_paired, refl) (live_new roots roots_paired) object,
              λ has. subst (λ (o : ℕ). is_marked other.marks o ≡ true) has.2 (live_new has.0 has.1),
            );
            each = each;
          };
        }
