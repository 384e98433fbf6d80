-- Where two objects match, they do not differ.
-- Serves `laws`.
use Rattle.std.proofs.Common.{◌≡◌, ◌<◌, ◌≤◌, ◌-◌, ◌+◌, ◌%◌, ℕ, zero, suc, Bool, true, false, not, ◌&&◌, ◌||◌, cond, eqb, List, [], ◌∷◌, ◌++◌, length, map, take, drop, reverse}
use Rattle.std.proofs.Common.{Option, Some, None, refl, sym, ap, subst, ◌∙◌, arith}
use Rattle.std.specs.Prelude.{Contains, nat_eq, nat_lt}
use Rattle.std.specs.Cmp.Lexicographic.{bytes_decides}
use Rattle.std.specs.List.{filter}
use Rattle.std.specs.Option.{option_eq}
use Rattle.std.proofs.lemmas.Bool.{and_parts, eq-eqb}
use Rattle.std.proofs.lemmas.List.{get_or_default, map-append}
use Rattle.std.proofs.lemmas.List.Elements.{filter-append}
use Rattle.sqz_image.specs.declared.slot.Slot.{Slot}
use Rattle.sqz_image.specs.declared.slot.Slot.TheVariants.{ClassWord, Field}
use Rattle.sqz_object.specs.declared.chunk.Kind.{Kind}
use Rattle.sqz_object.specs.declared.chunk.Kind.TheVariants.{Three, Two, Free, Short}
use Rattle.sqz_object.specs.declared.layout.Layout.{Layout}
use Rattle.sqz_object.specs.declared.layout.Layout.TheVariants.{Fields, Weak, Context, Words, Bytes, Method}
use Rattle.sqz_object.specs.declared.order.Order.{Order}
use Rattle.sqz_object.specs.Bytes.{bytes_of, spelling_of}
use Rattle.sqz_object.specs.Chunk.{base_word, chunk_kind, fields}
use Rattle.sqz_object.specs.Layout.{layout}
use Rattle.sqz_object.specs.Value.{base_of, padding}
use Rattle.sqz_names.specs.Structures.{is_method_layout}
use Rattle.sqz_trace.specs.Slots.{slot_word, traced}
use Rattle.sqz_code.specs.Parts.{bytecodes_in, code_bytes, literal_count}
use Rattle.sqz_code.specs.Trailers.{trailer_length}
use Rattle.sqz_alike.specs.declared.matching.Pair.{Pair}
use Rattle.sqz_alike.specs.Alike.{IsCorrespondence, ObjectsMatch, SlotsMatch, UntracedMatch, WordsMatch, untraced}
use Rattle.sqz_alike.specs.FirstDifference.{AreAmong}
use Rattle.sqz_alike.specs.Partners.{pair_at}
use Rattle.sqz_alike.specs.Seen.{seen_target}
use Rattle.sqz_alike.specs.Untraced.{same_bytes, same_untraced}
use Rattle.sqz_alike.proofs.MatchingLemmas.{pair_of}
use Rattle.sqz_alike.proofs.WordLemmas.{same_bytes-is, same_untraced-is}
use Rattle.sqz_changes.specs.declared.place.Difference.{Difference}
use Rattle.sqz_changes.specs.declared.place.Place.{Place}
use Rattle.sqz_changes.specs.declared.place.Place.TheVariants.{Header, Hash, Words as WordsPlace, Trailer, Slot as At}
use Rattle.sqz_changes.specs.Compared.{Compared, common_fields, is_pair, new_chunk, old_chunk}
use Rattle.sqz_changes.specs.Differences.{at_places, common_slots, differences, differs, first_places, places_of, slot_differs, slot_places, slots_differ, slots_to}
use Rattle.sqz_changes.specs.Headers.{are_methods, class_differs, compact, format, hash, hash_differs, header_differs, same_kind, shape_differs}
use Rattle.sqz_changes.specs.Laws.{AreAllPaired}
use Rattle.sqz_changes.specs.Words.{bytecodes_differ, trailer_differs, words_differ}
use Rattle.sqz_changes.proofs.PairLemmas.{is_pair-of}

no-or : (one other : Bool) → one ≡ false → other ≡ false → (one || other) ≡ false
no-or true other e f = e
no-or false other e f = f

no-and : (one other : Bool) → other ≡ false → (one && other) ≡ false
no-and true other e = e
no-and false other e = refl

numbers : (one other : ℕ) → one ≡ other → not (eqb one other) ≡ false
numbers one other e = ap not (eq-eqb one other e)

kinds : (one other : Kind) → one ≡ other → not (same_kind one other) ≡ false
kinds one other e = subst (λ (k : Kind). not (same_kind one k) ≡ false) e (own one)
  where
    own : (kind : Kind) → not (same_kind kind kind) ≡ false
    own Three = refl
    own Two = refl
    own Free = refl
    own Short = refl

options : (one other : Option ℕ) → one ≡ other → not (option_eq nat_eq one other) ≡ false
options one other e = subst (λ (o : Option ℕ). not (option_eq nat_eq one o) ≡ false) e (own one)
  where
    own : (o : Option ℕ) → not (option_eq nat_eq o o) ≡ false
    own (Some x) = numbers x x refl
    own None = refl

-- ---- words

method-bytes : (kind : Layout) (order other_order : Order) (words others : List ℕ) → is_method_layout kind ≡ true
    → UntracedMatch kind order other_order words others → map (bytes_of order) words ≡ map (bytes_of other_order) others
method-bytes Method order other_order words others is e = e
method-bytes Fields order other_order words others is e = absurd cc
method-bytes Weak order other_order words others is e = absurd cc
method-bytes Context order other_order words others is e = absurd cc
method-bytes Words order other_order words others is e = absurd cc
method-bytes (Bytes unused) order other_order words others is e = absurd cc

-- words with the same bytes are spelled alike
spelled : (order other_order : Order) (words others : List ℕ) → map (bytes_of order) words ≡ map (bytes_of other_order) others
    → spelling_of order words ≡ spelling_of other_order others
spelled order other_order [] [] e = refl
spelled order other_order [] (other ∷ others) e = absurd cc
spelled order other_order (word ∷ words) [] e = absurd cc
spelled order other_order (word ∷ words) (other ∷ others) e =
    ap (λ (bytes : List ℕ). bytes ++ spelling_of order words) (first e)
    ∙ ap (λ (bytes : List ℕ). bytes_of other_order other ++ bytes) (spelled order other_order words others (rest e))
  where
    first : bytes_of order word ∷ map (bytes_of order) words ≡ bytes_of other_order other ∷ map (bytes_of other_order) others
        → bytes_of order word ≡ bytes_of other_order other
    first e = cc

    rest : bytes_of order word ∷ map (bytes_of order) words ≡ bytes_of other_order other ∷ map (bytes_of other_order) others
        → map (bytes_of order) words ≡ map (bytes_of other_order) others
    rest e = cc

-- the words after the literals are those after the traced fields, but for a header that is none
after_literals : (traced : ℕ) (words : List ℕ) → drop (traced - 1 + 1) words ≡ drop (1 - traced) (drop traced words)
after_literals zero words = refl
after_literals (suc count) words =
    let one : suc count - 1 + 1 ≡ suc count = omega arith in
    let none : 1 - suc count ≡ 0 = omega arith in
    ap (λ (n : ℕ). drop n words) one ∙ sym (ap (λ (n : ℕ). drop n (drop (suc count) words)) none)

map-drop : (order : Order) (count : ℕ) (words : List ℕ) → map (bytes_of order) (drop count words) ≡ drop count (map (bytes_of order) words)
map-drop order zero words = refl
map-drop order (suc count) [] = refl
map-drop order (suc count) (word ∷ words) = map-drop order count words

module _ (order other_order : Order) (one other : List ℕ) (match : WordsMatch order other_order one other) where
  shapes : shape_differs one other ≡ false
  shapes =
      no-or (not (same_kind (chunk_kind one) (chunk_kind other))) (not (eqb (length one) (length other)) || not (eqb (format one) (format other)))
      (kinds (chunk_kind one) (chunk_kind other) match.headers.kind)
      (no-or (not (eqb (length one) (length other))) (not (eqb (format one) (format other)))
      (numbers (length one) (length other) match.headers.size) (numbers (format one) (format other) match.headers.format))

  pub no-header : header_differs one other ≡ false
  no-header =
      no-or (class_differs one other) (not (are_methods one other) && shape_differs one other)
      (no-or (not (eqb (compact one) (compact other))) (not (eqb (traced one) (traced other)))
      (numbers (compact one) (compact other) match.headers.compact) (numbers (traced one) (traced other) match.traced))
      (no-and (not (are_methods one other)) (shape_differs one other) shapes)

  pub no-hash : hash_differs one other ≡ false
  no-hash = numbers (hash one) (hash other) match.headers.hash

  module _ (is : is_method_layout (layout one) ≡ true) where
    bytes : map (bytes_of order) (untraced one) ≡ map (bytes_of other_order) (untraced other)
    bytes = method-bytes (layout one) order other_order (untraced one) (untraced other) is match.untraced

    codes : code_bytes order one ≡ code_bytes other_order other
    codes =
        let e = spelled order other_order (drop (literal_count one + 1) (fields one)) (drop (literal_count other + 1) (fields other))
        (ap (map (bytes_of order)) (after_literals (traced one) (fields one))
        ∙ map-drop order (1 - traced one) (untraced one)
        ∙ ap (drop (1 - traced one)) bytes
        ∙ sym (map-drop other_order (1 - traced one) (untraced other))
        ∙ ap (λ (n : ℕ). map (bytes_of other_order) (drop (1 - n) (untraced other))) match.traced
        ∙ sym (ap (map (bytes_of other_order)) (after_literals (traced other) (fields other)))) in
        ap (λ (s : List ℕ). take (length s - padding (base_of (base_word one))) s) e
        ∙ ap (λ (n : ℕ). take (length (spelling_of other_order (drop (literal_count other + 1) (fields other))) - n)
        (spelling_of other_order (drop (literal_count other + 1) (fields other)))) pad
      where
        pad : padding (base_of (base_word one)) ≡ padding (base_of (base_word other))
        pad = ap (λ (f : ℕ). cond (nat_lt f 8) 0 (f % 4)) match.headers.format

    bytecodes : bytecodes_in order one ≡ bytecodes_in other_order other
    bytecodes = ap (λ (s : List ℕ). take (length s - trailer_length (reverse s)) s) codes

  pub no-words : words_differ order other_order one other ≡ false
  no-words = by (are_methods one other) refl
    where
      by : (b : Bool) → are_methods one other ≡ b
          → cond b (bytecodes_differ order other_order one other) (not (same_untraced (layout one) order other_order (untraced one) (untraced other))) ≡ false
      by true e =
          let is = (and_parts (is_method_layout (layout one)) (is_method_layout (layout other)) e).0 in
          ap not ((bytes_decides (bytecodes_in order one) (bytecodes_in other_order other)).1 (bytecodes is))
      by false e = ap not ((same_untraced-is (layout one) order other_order (untraced one) (untraced other)).1 match.untraced)

  pub no-trailer : trailer_differs order other_order one other ≡ false
  no-trailer = by (are_methods one other) refl
    where
      by : (b : Bool) → are_methods one other ≡ b
          → (b && (shape_differs one other || not (same_bytes order other_order (untraced one) (untraced other)))) ≡ false
      by true e =
          let is = (and_parts (is_method_layout (layout one)) (is_method_layout (layout other)) e).0 in
          no-or (shape_differs one other) (not (same_bytes order other_order (untraced one) (untraced other))) shapes
          (ap not ((same_bytes-is order other_order (untraced one) (untraced other)).1 (bytes is)))
      by false e = refl

-- ---- differences

filter-first : {A : Type 0} (p : A → Bool) (x : A) (xs : List A) → p x ≡ false → filter p xs ≡ [] → filter p (x ∷ xs) ≡ []
filter-first p x xs e f = ap (λ (b : Bool). cond b (x ∷ filter p xs) (filter p xs)) e ∙ f

filter-both : {A : Type 0} (p : A → Bool) (xs ys : List A) → filter p xs ≡ [] → filter p ys ≡ [] → filter p (xs ++ ys) ≡ []
filter-both {A} p xs ys e f = filter-append p xs ys ∙ ap (λ (zs : List A). zs ++ filter p ys) e ∙ f

module _ (c : Compared) (all : List Pair) (is : IsCorrespondence c.old c.new all) (among : AreAmong c.pairs all) (paired : AreAllPaired c) where
  back : (old new : ℕ) → Contains all (pair_of old new) → is_pair c.pairs old new ≡ true
  back old new within =
      let has = (paired.old old).0 ((is.all_old old).1 (pair_of old new, within, refl)) in
      let same : has.0 ≡ pair_of old new = is.once.by_old has.0 (pair_of old new) (among has.0 has.1) within has.2 in
      sym (ap (λ (p : Pair). is_pair c.pairs p.old p.new) same) ∙ is_pair-of c.pairs has.0 has.1

  no-slot : (old new word other : Option ℕ) → SlotsMatch all old new word other → slots_differ c.pairs old new word other ≡ false
  no-slot (Some old) (Some new) word other m = ap not (back old new m)
  no-slot (Some old) None word other m = absurd m
  no-slot None (Some new) word other m = absurd m
  no-slot None None word other m = options word other m

  module _ (index : ℕ) (match : ObjectsMatch c.old c.new all (pair_at c.pairs index)) where
    slot-same : (slot : Slot) → slot_differs c (pair_at c.pairs index) slot ≡ false
    slot-same slot =
        let pair : Pair = pair_at c.pairs index in
        no-slot (seen_target c.old pair.old slot) (seen_target c.new pair.new slot)
        (slot_word (old_chunk c pair) slot) (slot_word (new_chunk c pair) slot) (match.slots slot)

    abbrev at_slots : List Slot → List Difference
    at_slots slots = at_places index (slot_places slots)

    slots-same : (count : ℕ) → filter (differs c) (at_slots (slots_to count)) ≡ []
    slots-same zero = filter-first (differs c) (record { pair = index; place = At ClassWord }) [] (slot-same ClassWord) refl
    slots-same (suc count) =
        ap (filter (differs c))
        (ap (at_places index) (map-append (λ (slot : Slot). At slot) (slots_to count) (Field count ∷ []))
        ∙ map-append (λ (place : Place). record { pair = index; place = place }) (slot_places (slots_to count)) (At (Field count) ∷ []))
        ∙ filter-both (differs c) (at_slots (slots_to count)) (at_slots (Field count ∷ [])) (slots-same count)
        (filter-first (differs c) (record { pair = index; place = At (Field count) }) [] (slot-same (Field count)) refl)

    pair-same : filter (differs c) (places_of c index) ≡ []
    pair-same =
        let pair : Pair = pair_at c.pairs index in
        let one : List ℕ = old_chunk c pair in
        let other : List ℕ = new_chunk c pair in
        let at : Place → Difference = λ place. record { pair = index; place = place } in
        let rest : List Difference = at_slots (common_slots c index) in
        let order : Order = c.old.memory.order in
        let other_order : Order = c.new.memory.order in
        filter-first (differs c) (at Header) (at Hash ∷ at WordsPlace ∷ at Trailer ∷ rest) (no-header order other_order one other match.words)
        (filter-first (differs c) (at Hash) (at WordsPlace ∷ at Trailer ∷ rest) (no-hash order other_order one other match.words)
        (filter-first (differs c) (at WordsPlace) (at Trailer ∷ rest) (no-words order other_order one other match.words)
        (filter-first (differs c) (at Trailer) rest (no-trailer order other_order one other match.words) (slots-same (common_fields c pair)))))

  all-same : (count : ℕ) → count ≤ length c.pairs → filter (differs c) (first_places c count) ≡ []
  all-same zero le = refl
  all-same (suc count) le =
      let within : count < length c.pairs = omega (arith, le) in
      let pair : Pair = pair_at c.pairs count in
      let here : Contains c.pairs pair = (count, within, get_or_default c.pairs count pair (pair_of 0 0) within) in
      filter-both (differs c) (first_places c count) (places_of c count) (all-same count (omega (arith, le)))
      (pair-same count (is.each pair (among pair here)))

  -- nothing differs
  pub nothing : differences c ≡ []
  nothing = all-same (length c.pairs) (omega arith)
