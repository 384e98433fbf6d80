-- Alike images are written down alike.
-- Serves `laws` and `ReadLemmas`.
use Rattle.std.proofs.Common.{◌≡◌, ℕ, zero, suc, ◌+◌, Bool, cond, not, List, [], ◌∷◌, ◌++◌, map, length, get_or, Option, Some, None}
use Rattle.std.proofs.Common.{refl, sym, ap, subst, ◌∙◌, arith, inl, inr, add_comm}
use base.Stored.{Coded-set}
use Rattle.std.specs.Coded.{coded_ℕ, coded_list}
use Rattle.std.specs.Prelude.{Contains, fold, filter_map, flat_map}
use Rattle.std.specs.List.{AllZip, cons_option}
use Rattle.std.proofs.lemmas.Bool.{cases_eq, cases_lt, eq-eqb, ne_eqb}
use Rattle.std.proofs.lemmas.List.Elements.{AllZip-push, AllZip-get_or, length_all_zip}
use Rattle.std.proofs.lemmas.List.Folds.{flat_map-map}
use Rattle.std.proofs.lemmas.Option.{slice_get-get_or, slice_get_past}
use Rattle.sqz_object.specs.declared.layout.Layout.{Layout}
use Rattle.sqz_object.specs.declared.layout.Layout.TheVariants.{Fields, Weak, Context, Words, Bytes, Method}
use Rattle.sqz_object.specs.declared.order.Order.{Order}
use Rattle.sqz_object.specs.declared.order.Order.TheVariants.{Little}
use Rattle.sqz_object.specs.Bytes.{bytes_of, spelling_of}
use Rattle.sqz_object.specs.Layout.{layout, layout_by}
use Rattle.sqz_object.specs.Chunk.{format, compact_index}
use Rattle.sqz_image.specs.declared.slot.Slot.{Slot}
use Rattle.sqz_image.specs.declared.slot.Slot.TheVariants.{ClassWord}
use Rattle.sqz_image.specs.Objects.{object_count, chunk_words}
use Rattle.sqz_trace.specs.declared.live_objects.Live.{Live}
use Rattle.sqz_trace.specs.Slots.{slot_word, field_slots}
use Rattle.sqz_alike.specs.declared.matching.Pair.{Pair}
use Rattle.sqz_alike.specs.Alike.{untraced, UntracedMatch, HeadersMatch, WordsMatch, SlotsMatch, SlotMatches, IsCorrespondence, AreAlike}
use Rattle.sqz_alike.specs.Seen.{Seen, seen, seen_target}
use Rattle.sqz_alike.proofs.MatchingLemmas.{pair_of}
use Rattle.sqz_alike.specs.Found.{place_of, with_object, with_targets, slots_of, after_visit, visit, found_after, in_order}
use Rattle.sqz_alike.specs.Written.{slot_words, slot_bytes, header_words, header_bytes, untraced_order, untraced_bytes, object_bytes, written}
use Rattle.sqz_alike.proofs.PlaceLemmas.{place_of-le, with_object-old, with_object-new}
use Rattle.sqz_alike.proofs.OrderLemmas.{found_after-all}
use Rattle.sqz_alike.proofs.FoundLemmas.{found_after-length}

flat_map-agree : {X Y A : Type 0} (R : X → Y → Type 0) (f : X → List A) (g : Y → List A) → ((x : X) (y : Y) → R x y → f x ≡ g y)
    → (xs : List X) (ys : List Y) → AllZip R xs ys → flat_map f xs ≡ flat_map g ys
flat_map-agree R f g agree [] [] all = refl
flat_map-agree R f g agree [] (y ∷ ys) all = absurd all
flat_map-agree R f g agree (x ∷ xs) [] all = absurd all
flat_map-agree {A = A} R f g agree (x ∷ xs) (y ∷ ys) all =
    ap (λ (bytes : List A). bytes ++ flat_map f xs) (agree x y all.0)
    ∙ ap (λ (bytes : List A). g y ++ bytes) (flat_map-agree R f g agree xs ys all.1)

flat_map-same : {X A : Type 0} (f g : X → List A) → ((x : X) → f x ≡ g x) → (xs : List X) → flat_map f xs ≡ flat_map g xs
flat_map-same f g agree [] = refl
flat_map-same {A = A} f g agree (x ∷ xs) =
    ap (λ (bytes : List A). bytes ++ flat_map f xs) (agree x)
    ∙ ap (λ (bytes : List A). g x ++ bytes) (flat_map-same f g agree xs)

-- ---- words that match

spelling_of-map : (order : Order) (words : List ℕ) → spelling_of order words ≡ flat_map (λ bytes. bytes) (map (bytes_of order) words)
spelling_of-map order words = sym (flat_map-map (λ (bytes : List ℕ). bytes) (bytes_of order) words)

spelling_of-same : (order other_order : Order) (words others : List ℕ) → map (bytes_of order) words ≡ map (bytes_of other_order) others
    → spelling_of order words ≡ spelling_of other_order others
spelling_of-same order other_order words others same =
    spelling_of-map order words
    ∙ ap (flat_map (λ bytes. bytes)) same
    ∙ sym (spelling_of-map other_order others)

untraced-same : (form : Layout) (order other_order : Order) (words others : List ℕ) → UntracedMatch form order other_order words others
    → spelling_of (untraced_order form order) words ≡ spelling_of (untraced_order form other_order) others
untraced-same Fields order other_order words others match = ap (spelling_of Little) match
untraced-same Weak order other_order words others match = ap (spelling_of Little) match
untraced-same Context order other_order words others match = ap (spelling_of Little) match
untraced-same Words order other_order words others match = ap (spelling_of Little) match
untraced-same (Bytes unused) order other_order words others match = spelling_of-same order other_order words others match
untraced-same Method order other_order words others match = spelling_of-same order other_order words others match

pub layout-match : (one other : List ℕ) → HeadersMatch one other → layout one ≡ layout other
layout-match one other match =
    ap (λ (form : ℕ). layout_by form (compact_index one)) match.format ∙ ap (layout_by (format other)) match.compact

module _ (order other_order : Order) (one other : List ℕ) (match : WordsMatch order other_order one other) where
  header-same : header_words one ≡ header_words other
  header-same =
      let kind = match.headers.kind in
      let size = match.headers.size in
      let format_is = match.headers.format in
      let compact_is = match.headers.compact in
      let hash = match.headers.hash in
      let traced_is = match.traced in
      cc

  untraced_bytes-same : untraced_bytes order one ≡ untraced_bytes other_order other
  untraced_bytes-same =
      untraced-same (layout one) order other_order (untraced one) (untraced other) match.untraced
      ∙ ap (λ (form : Layout). spelling_of (untraced_order form other_order) (untraced other)) (layout-match one other match.headers)

  slots-same : slots_of one ≡ slots_of other
  slots-same = ap (λ (count : ℕ). ClassWord ∷ field_slots 0 count) match.traced

-- ---- objects that correspond

module _ (old new : Seen) (pairs : List Pair) (is : IsCorrespondence old new pairs) where
  abbrev Pairs : ℕ → ℕ → Type 0
  Pairs one other = Contains pairs (pair_of one other)

  only_new : (one other one' other' : ℕ) → Pairs one other → Pairs one' other' → one ≡ one' → other ≡ other'
  only_new one other one' other' paired paired' same =
      ap (λ (pair : Pair). pair.new) (is.once.by_old (pair_of one other) (pair_of one' other') paired paired' same)

  only_old : (one other one' other' : ℕ) → Pairs one other → Pairs one' other' → other ≡ other' → one ≡ one'
  only_old one other one' other' paired paired' same =
      ap (λ (pair : Pair). pair.old) (is.once.by_new (pair_of one other) (pair_of one' other') paired paired' same)

  -- the objects of a pair have one place
  place_of-same : (found others : List ℕ) (one other : ℕ) → AllZip Pairs found others → Pairs one other
      → place_of found one ≡ place_of others other
  place_of-same [] [] one other all paired = refl
  place_of-same [] (y ∷ ys) one other all paired = absurd all
  place_of-same (x ∷ xs) [] one other all paired = absurd all
  place_of-same (x ∷ xs) (y ∷ ys) one other all paired =
      elim (cases_eq one x) [
        | inl same ↦
            ap (λ (b : Bool). cond (not b) (1 + place_of xs one) 0) (eq-eqb one x same)
            ∙ sym (ap (λ (b : Bool). cond (not b) (1 + place_of ys other) 0) (eq-eqb other y (only_new one other x y paired all.0 same)))
        | inr differs ↦
            ap (λ (b : Bool). cond (not b) (1 + place_of xs one) 0) (ne_eqb one x differs)
            ∙ ap (λ (n : ℕ). 1 + n) (place_of-same xs ys one other all.1 paired)
            ∙ sym
            (ap (λ (b : Bool). cond (not b) (1 + place_of ys other) 0)
            (ne_eqb other y (λ same. differs (only_old one other x y paired all.0 same))))
      ]

  with_object-same : (found others : List ℕ) (one other : ℕ) → AllZip Pairs found others → Pairs one other
      → AllZip Pairs (with_object found one) (with_object others other)
  with_object-same found others one other all paired =
      let long = length_all_zip Pairs found others all in
      let place = place_of-same found others one other all paired in
      elim (cases_eq (place_of found one) (length found)) [
        | inl fresh ↦
            rw (with_object-new found one fresh, with_object-new others other (omega arith)) (AllZip-push Pairs found others one other all paired)
        | inr known ↦
            rw (with_object-old found one (omega (arith, known, place_of-le found one)), with_object-old others other (omega (arith, known, place, long, place_of-le others other)))
            all
      ]

  -- ---- slots

  module _ (word other_word : Option ℕ) where
    option-same : (target other_target : Option ℕ) (targets other_targets : List ℕ) → SlotsMatch pairs target other_target word other_word
        → ((found others : List ℕ) → AllZip Pairs found others → AllZip Pairs (fold with_object found targets) (fold with_object others other_targets))
        → (found others : List ℕ) → AllZip Pairs found others
        → AllZip Pairs (fold with_object found (cons_option target targets)) (fold with_object others (cons_option other_target other_targets))
    option-same (Some one) (Some other) targets other_targets match rest found others all =
        rest (with_object found one) (with_object others other) (with_object-same found others one other all match)
    option-same (Some one) None targets other_targets match rest found others all = absurd match
    option-same None (Some other) targets other_targets match rest found others all = absurd match
    option-same None None targets other_targets match rest found others all = rest found others all

    -- a slot that leads to no object is written in one way
    no_object : (found others : List ℕ) (held : Option ℕ) → slot_words found None held ≡ slot_words others None held
    no_object found others None = refl
    no_object found others (Some held) = refl

    slot_words-same : (found others : List ℕ) → AllZip Pairs found others → (target other_target : Option ℕ)
        → SlotsMatch pairs target other_target word other_word → slot_words found target word ≡ slot_words others other_target other_word
    slot_words-same found others all (Some one) (Some other) match =
        ap (λ (place : ℕ). 1 ∷ place ∷ []) (place_of-same found others one other all match)
    slot_words-same found others all (Some one) None match = absurd match
    slot_words-same found others all None (Some other) match = absurd match
    slot_words-same found others all None None match =
        ap (slot_words found None) match ∙ no_object found others other_word

  module _ (one other : ℕ) (paired : Pairs one other) where
    matches : (slot : Slot) → SlotMatches old new pairs (pair_of one other) slot
    matches = (is.each (pair_of one other) paired).slots

    words : WordsMatch old.memory.order new.memory.order (chunk_words old.memory one) (chunk_words new.memory other)
    words = (is.each (pair_of one other) paired).words

    with_targets-same : (slots : List Slot) (found others : List ℕ) → AllZip Pairs found others
        → AllZip Pairs (with_targets old one found slots) (with_targets new other others slots)
    with_targets-same [] found others all = all
    with_targets-same (slot ∷ slots) found others all =
        option-same (slot_word (chunk_words old.memory one) slot) (slot_word (chunk_words new.memory other) slot)
        (seen_target old one slot) (seen_target new other slot)
        (filter_map (seen_target old one) slots) (filter_map (seen_target new other) slots)
        (matches slot) (λ found' others'. with_targets-same slots found' others') found others all

    visit-same : (found others : List ℕ) → AllZip Pairs found others
        → AllZip Pairs (after_visit old found (Some one)) (after_visit new others (Some other))
    visit-same found others all =
        let same = slots-same old.memory.order new.memory.order (chunk_words old.memory one) (chunk_words new.memory other) words in
        subst (λ (slots : List Slot). AllZip Pairs (with_targets old one found (slots_of (chunk_words old.memory one))) (with_targets new other others slots)) same
        (with_targets-same (slots_of (chunk_words old.memory one)) found others all)

    object_bytes-same : (found others : List ℕ) → AllZip Pairs found others → object_bytes old found one ≡ object_bytes new others other
    object_bytes-same found others all =
        let chunk = chunk_words old.memory one in
        let other_chunk = chunk_words new.memory other in
        let header : header_bytes chunk ≡ header_bytes other_chunk =
        ap (spelling_of Little) (header-same old.memory.order new.memory.order chunk other_chunk words) in
        let slots : flat_map (slot_bytes old found one) (slots_of chunk) ≡ flat_map (slot_bytes new others other) (slots_of other_chunk) =
        flat_map-same (slot_bytes old found one) (slot_bytes new others other)
        (λ slot. ap (spelling_of Little)
        (slot_words-same (slot_word chunk slot) (slot_word other_chunk slot) found others all (seen_target old one slot) (seen_target new other slot) (matches slot)))
        (slots_of chunk)
        ∙ ap (flat_map (slot_bytes new others other)) (slots-same old.memory.order new.memory.order chunk other_chunk words) in
        let rest : untraced_bytes old.memory.order chunk ≡ untraced_bytes new.memory.order other_chunk =
        untraced_bytes-same old.memory.order new.memory.order chunk other_chunk words in
        ap (λ (bytes : List ℕ). bytes ++ flat_map (slot_bytes old found one) (slots_of chunk) ++ untraced_bytes old.memory.order chunk) header
        ∙ ap (λ (bytes : List ℕ). header_bytes other_chunk ++ bytes ++ untraced_bytes old.memory.order chunk) slots
        ∙ ap (λ (bytes : List ℕ). header_bytes other_chunk ++ flat_map (slot_bytes new others other) (slots_of other_chunk) ++ bytes) rest

  -- ---- the walks

  visit_at-same : (found others : List ℕ) (place : ℕ) → AllZip Pairs found others → AllZip Pairs (visit old found place) (visit new others place)
  visit_at-same found others place all =
      let long = length_all_zip Pairs found others all in
      elim (cases_lt place (length found)) [
        | inl inside ↦
            let one = slice_get-get_or found place 0 inside in
            let other = slice_get-get_or others place 0 (omega arith) in
            rw (one, other)
            (visit-same (get_or found place 0) (get_or others place 0) (AllZip-get_or Pairs found others place 0 0 all inside) found others all)
        | inr past ↦
            let one = slice_get_past found place past in
            let other = slice_get_past others place (omega arith) in
            rw (one, other) all
      ]

  found_after-same : (steps : ℕ) → AllZip Pairs (found_after old steps) (found_after new steps)
  found_after-same zero =
      let roots = is.roots in
      rw (roots.old_is, roots.new_is) (roots.paired, tt)
  found_after-same (suc steps) = visit_at-same (found_after old steps) (found_after new steps) steps (found_after-same steps)

  written-same_by : (steps : ℕ) → in_order old ≡ found_after old steps → in_order new ≡ found_after new steps → written old ≡ written new
  written-same_by steps old_is new_is =
      let all : AllZip Pairs (in_order old) (in_order new) =
      subst (AllZip Pairs (in_order old)) (sym new_is)
      (subst (λ (found : List ℕ). AllZip Pairs found (found_after new steps)) (sym old_is) (found_after-same steps)) in
      flat_map-agree Pairs (object_bytes old (in_order old)) (object_bytes new (in_order new))
      (λ one other paired. object_bytes-same one other paired (in_order old) (in_order new) all) (in_order old) (in_order new) all

-- ---- the law

-- two proofs that the same bytes are written are one
pub written-set : (bytes others : List ℕ) → (p q : bytes ≡ others) → p ≡ q
written-set = Coded-set (coded_list coded_ℕ)

pub written-same : (one other : Live) → AreAlike (seen one) (seen other) → written (seen one) ≡ written (seen other)
written-same one other alike =
    let count = object_count one.graph.heap.now in
    let other_count = object_count other.graph.heap.now in
    written-same_by (seen one) (seen other) alike.pairs alike.correspond (count + other_count)
    (sym (found_after-all (seen one) count other_count (found_after-length one count)))
    (sym
    (ap (found_after (seen other)) (add_comm count other_count)
    ∙ found_after-all (seen other) other_count count (found_after-length other other_count)))
