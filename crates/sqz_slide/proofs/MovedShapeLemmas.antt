-- An object after the move: it has the shape that it had, is a chunk again, and its slots hold new
-- addresses.
-- Serves `CompactedLemmas`, `CopiedLemmas` and `WordLemmas`; `FixedPointLemmas` of `sqz_tool`.
use Rattle.std.proofs.Common.{◌≡◌, ◌⊎◌, ℕ, zero, suc, ◌+◌, ◌-◌, ◌*◌, ◌%◌, ◌^◌, ◌<◌, ◌≤◌, Bool, true, false, cond, ltb}
use Rattle.std.proofs.Common.{List, [], ◌∷◌, ◌++◌, map, length, get_or, take, drop, slice_index, Option, Some, None}
use Rattle.std.proofs.Common.{refl, sym, ap, subst, ◌∙◌, arith, inl, inr}
use Rattle.std.specs.Prelude.{unwrap_or, option_map, option_and_then}
use Rattle.std.specs.List.{AllByRecursion}
use Rattle.std.proofs.lemmas.Bool.{cases_lt, lt-ltb, ltb-true, false≢true}
use Rattle.std.proofs.lemmas.Option.{none-some, same_Some}
use Rattle.std.proofs.lemmas.List.{length-map, length-take-le, length-drop, take-append-drop, drop_at}
use Rattle.std.proofs.lemmas.List.{get_or_append_left, get_or-append_right, get_or-map, get_or-take, get_or-drop, get_or_past}
use Rattle.sqz_object.specs.declared.chunk.Kind.{Kind}
use Rattle.sqz_object.specs.declared.chunk.Kind.TheVariants.{Three, Two, Free, Short}
use Rattle.sqz_object.specs.Chunk.{IsChunk, IsChunkOf, chunk_kind, words_before, before, fields, is_object}
use Rattle.sqz_object.proofs.ChunkLemmas.{chunk_kind_is}
use Rattle.sqz_image.specs.declared.slot.Slot.{Slot}
use Rattle.sqz_image.specs.declared.slot.Slot.TheVariants.{ClassWord, Field}
use Rattle.sqz_image.specs.Objects.{Memory, objects, object_count, chunk_words}
use Rattle.sqz_image.proofs.ObjectLemmas.{objects_keep, All_at, before-chunk}
use Rattle.sqz_trace.specs.declared.weak.Weak.{Weak}
use Rattle.sqz_trace.specs.Slots.{traced, class_address, class_word, word_among, slot_word}
use Rattle.sqz_trace.specs.Targets.{named_by}
use Rattle.sqz_trace.specs.Strong.{is_weak, fixed_by, unless_above, class_of, strong}
use Rattle.sqz_trace.specs.Edges.{nil}
use Rattle.sqz_trace.specs.Graph.{is_marked}
use Rattle.sqz_trace.proofs.ShapeLemmas.{IsAlike, IsShapedAs, traced-shaped}
use Rattle.sqz_trace.proofs.SlotLemmas.{traced_inside}
use Rattle.sqz_trace.proofs.StrongLemmas.{strong_inside}
use Rattle.sqz_regions.specs.Places.{place}
use Rattle.sqz_trace.specs.Live.{live_words_below, live_words}
use Rattle.sqz_regions.specs.Bases.{place_if_marked}
use Rattle.sqz_trace.proofs.LiveWordLemmas.{words_in-marked_take, live_words_more_yes, no_object}
use Rattle.sqz_slide.specs.Moved.{new_address, moved_field, nil_place, address_or, moved_weak, moved_class, moved_header}
use Rattle.sqz_slide.specs.Moved.{moved_others, moved_fields, moved}
use Rattle.sqz_slide.proofs.HeaderLemmas.{length-moved_header}
use Rattle.sqz_slide.proofs.LengthLemmas.{length-moved_fields}

-- ---- lists of words in the place of others

-- words that change one by one are alike, where each is like its new one
alike-map : (f : ℕ → ℕ) → ((word : ℕ) → IsAlike word (f word)) → (words : List ℕ) (k : ℕ)
    → IsAlike (slice_index words k) (slice_index (map f words) k)
alike-map f alike [] k = inl refl
alike-map f alike (word ∷ words) zero = alike word
alike-map f alike (word ∷ words) (suc k) = alike-map f alike words k

-- words before others, each part alike
alike-append : (one other new_one new_other : List ℕ) → length new_one ≡ length one
    → ((k : ℕ) → IsAlike (slice_index one k) (slice_index new_one k))
    → ((k : ℕ) → IsAlike (slice_index other k) (slice_index new_other k))
    → (k : ℕ) → IsAlike (slice_index (one ++ other) k) (slice_index (new_one ++ new_other) k)
alike-append [] other [] new_other sized front back k = back k
alike-append (word ∷ one) other (new ∷ new_one) new_other sized front back zero = front zero
alike-append (word ∷ one) other (new ∷ new_one) new_other sized front back (suc k) =
    alike-append one other new_one new_other (omega arith) (λ k. front (suc k)) back k
alike-append _ other _ new_other sized front back k = absurd (omega arith)

-- all words are words of 32 bits
abbrev AreWords : List ℕ → Type 0
AreWords words = (k : ℕ) → slice_index words k < 2 ^ 32

-- no words are
AreWords-none : AreWords []
AreWords-none k = omega arith

-- one word before others
AreWords-cons : (word : ℕ) (words : List ℕ) → word < 2 ^ 32 → AreWords words → AreWords (word ∷ words)
AreWords-cons word words lt below zero = lt
AreWords-cons word words lt below (suc k) = below k

-- words before others
AreWords-append : (one other : List ℕ) → AreWords one → AreWords other → AreWords (one ++ other)
AreWords-append [] other front back k = back k
AreWords-append (word ∷ one) other front back zero = front zero
AreWords-append (word ∷ one) other front back (suc k) = AreWords-append one other (λ k. front (suc k)) back k

-- words that change one by one, where each stays one
AreWords-map : (f : ℕ → ℕ) → ((word : ℕ) → word < 2 ^ 32 → f word < 2 ^ 32) → (words : List ℕ) → AreWords words
    → AreWords (map f words)
AreWords-map f keeps [] below k = omega arith
AreWords-map f keeps (word ∷ words) below zero = keeps word (below zero)
AreWords-map f keeps (word ∷ words) below (suc k) = AreWords-map f keeps words (λ k. below (suc k)) k

-- the first of some words
AreWords-take : (count : ℕ) (words : List ℕ) → AreWords words → AreWords (take count words)
AreWords-take zero words below k = omega arith
AreWords-take (suc count) [] below k = omega arith
AreWords-take (suc count) (word ∷ words) below zero = below zero
AreWords-take (suc count) (word ∷ words) below (suc k) = AreWords-take count words (λ k. below (suc k)) k

-- and those after them
AreWords-drop : (count : ℕ) (words : List ℕ) → AreWords words → AreWords (drop count words)
AreWords-drop count words below k = rw (get_or-drop count words k 0) (below (count + k))

-- what is held where a test holds
held_where : (test : Bool) (at word : ℕ) → cond test (Some at) None ≡ Some word → (test ≡ true) × (at ≡ word)
held_where true at word held = (refl, same_Some at word held)
held_where false at word held = absurd (none-some word held)

-- and where nothing is held, it fails
not_held_where : (test : Bool) (at : ℕ) → cond test (Some at) None ≡ None → test ≡ false
not_held_where true at held = absurd (none-some at (sym held))
not_held_where false at held = refl

-- the kinds of objects
abbrev is_object_kind : Kind → Bool
is_object_kind Three = true
is_object_kind Two = true
is_object_kind Free = false
is_object_kind Short = true

-- the kind tells whether a chunk is an object
is_object-kind : (kind : Kind) (chunk : List ℕ) → IsChunkOf kind chunk → is_object chunk ≡ is_object_kind kind
is_object-kind Three (size ∷ class ∷ base ∷ fields) h = rw h.0 refl
is_object-kind Two (class ∷ base ∷ fields) h = rw h.0 refl
is_object-kind Free (free ∷ rest) h = rw h.0 refl
is_object-kind Short (base ∷ fields) h = rw h.0 refl
is_object-kind _ _ h = absurd h

module _ (memory : Memory) (weak : Weak) (marks : List Bool) (aligned : memory.base % 4 ≡ 0) where
  -- a place is an address
  pub place-aligned : (index : ℕ) → place memory marks index % 4 ≡ 0
  place-aligned index = omega arith

  -- ---- a word after the move

  -- an integer names nothing, and any other word is even
  names_or_even : (word : ℕ) → (named_by memory word ≡ None) ⊎ (word % 2 ≡ 0)
  names_or_even word =
      elim (cases_lt (word % 2) 1) [
        | inl even ↦ inr (omega arith)
        | inr odd ↦ let is : word % 2 ≡ 1 = omega arith in inl (rw is refl)
      ]

  -- an address in the place of an even word, where a test holds
  alike-place : (test : Bool) (word other index : ℕ) → word % 2 ≡ 0 → IsAlike word other
      → IsAlike word (cond test (place memory marks index) other)
  alike-place true word other index even alike = let at = place-aligned index in inr (even, omega arith)
  alike-place false word other index even alike = alike

  -- a strong field
  alike-moved_field : (word : ℕ) → IsAlike word (moved_field memory marks word)
  alike-moved_field word =
      elim (names_or_even word) [
        | inl none ↦ rw none (inl refl)
        | inr even ↦ by_named (named_by memory word) even
      ]
    where
      by_named : (named : Option ℕ) → word % 2 ≡ 0 → IsAlike word (new_address memory marks word named)
      by_named None even = inl refl
      by_named (Some index) even = alike-place (is_marked marks index) word word index even (inl refl)

  -- nil's place in the place of an even word
  alike-nil_place : (word : ℕ) (nil : Option ℕ) → word % 2 ≡ 0
      → IsAlike word (unwrap_or (option_and_then (place_if_marked memory marks) nil) word)
  alike-nil_place word None even = inl refl
  alike-nil_place word (Some index) even = by_test (is_marked marks index)
    where
      by_test : (test : Bool) → IsAlike word (unwrap_or (cond test (Some (place memory marks index)) None) word)
      by_test true = let at = place-aligned index in inr (even, omega arith)
      by_test false = inl refl

  -- a weak field
  alike-moved_weak : (word : ℕ) → IsAlike word (moved_weak memory weak marks word)
  alike-moved_weak word =
      elim (names_or_even word) [
        | inl none ↦ rw none (inl refl)
        | inr even ↦ by_named (named_by memory word) even
      ]
    where
      by_named : (named : Option ℕ) → word % 2 ≡ 0
          → IsAlike word (address_or memory marks (nil_place memory weak marks) word named)
      by_named None even = inl refl
      by_named (Some index) even =
          alike-place (is_marked marks index) word (unwrap_or (nil_place memory weak marks) word) index even
          (alike-nil_place word (nil memory weak) even)

  -- the new address of an address is one
  new_address-aligned : (word : ℕ) (named : Option ℕ) → word % 4 ≡ 0 → new_address memory marks word named % 4 ≡ 0
  new_address-aligned word None is = is
  new_address-aligned word (Some index) is = by_test (is_marked marks index)
    where
      by_test : (test : Bool) → cond test (place memory marks index) word % 4 ≡ 0
      by_test true = place-aligned index
      by_test false = is

  -- so is that of the address in a class word
  class_address-new : (word : ℕ) → moved_field memory marks (class_address word) % 4 ≡ 0
  class_address-new word = new_address-aligned (class_address word) (named_by memory (class_address word)) (omega arith)

  -- a class word keeps its type
  moved_class-type : (word : ℕ) → moved_class memory marks word % 4 ≡ word % 4
  moved_class-type word =
      let new = moved_field memory marks (class_address word) in
      let is : new % 4 ≡ 0 = class_address-new word in
      omega arith

  -- and its address moves
  class_address-moved : (word : ℕ) → class_address (moved_class memory marks word) ≡ moved_field memory marks (class_address word)
  class_address-moved word =
      let new = moved_field memory marks (class_address word) in
      let is : new % 4 ≡ 0 = class_address-new word in
      omega arith

  -- ---- a header after the move

  -- it begins a chunk again, with as many fields
  chunk-moved_header : (kind : Kind) (chunk rest : List ℕ) → IsChunkOf kind chunk
      → length rest ≡ length (drop (words_before kind + 1) chunk) → IsChunkOf kind (moved_header memory marks kind chunk ++ rest)
  chunk-moved_header Three (size ∷ class ∷ base ∷ fields) rest (a, b, c, len) sized =
      (a, moved_class-type class ∙ b, c, omega arith)
  chunk-moved_header Two (class ∷ base ∷ fields) rest (a, b, len) sized = (moved_class-type class ∙ a, b, omega arith)
  chunk-moved_header Free (free ∷ fields) rest (a, len) sized = (a, omega arith)
  chunk-moved_header Short (base ∷ fields) rest (a, len) sized = (a, omega arith)
  chunk-moved_header _ _ rest h sized = absurd h

  -- the base header stays
  base-moved_header : (kind : Kind) (chunk rest : List ℕ) → words_before kind < length chunk
      → slice_index (moved_header memory marks kind chunk ++ rest) (words_before kind) ≡ slice_index chunk (words_before kind)
  base-moved_header Three (size ∷ class ∷ base ∷ fields) rest headed = refl
  base-moved_header Two (class ∷ base ∷ fields) rest headed = refl
  base-moved_header Free (free ∷ fields) rest headed = refl
  base-moved_header Short (base ∷ fields) rest headed = refl
  base-moved_header _ _ rest headed = absurd (omega arith)

  -- the class word has the new address
  class-moved_header : (kind : Kind) (chunk rest : List ℕ) (word : ℕ) → words_before kind < length chunk
      → option_map class_address (class_word kind chunk) ≡ Some word
      → option_map class_address (class_word kind (moved_header memory marks kind chunk ++ rest))
      ≡ Some (moved_field memory marks word)
  class-moved_header Three (size ∷ class ∷ base ∷ fields) rest word headed held =
      ap Some (class_address-moved class ∙ ap (moved_field memory marks) (same_Some _ _ held))
  class-moved_header Two (class ∷ base ∷ fields) rest word headed held =
      ap Some (class_address-moved class ∙ ap (moved_field memory marks) (same_Some _ _ held))
  class-moved_header Free chunk rest word headed held = absurd (none-some word held)
  class-moved_header Short chunk rest word headed held = absurd (none-some word held)
  class-moved_header _ _ rest word headed held = absurd (omega arith)

  -- and where there is none, there is none
  class-moved_header_none : (kind : Kind) (chunk words : List ℕ) → option_map class_address (class_word kind chunk) ≡ None
      → option_map class_address (class_word kind words) ≡ None
  class-moved_header_none Three chunk words held = absurd (none-some _ (sym held))
  class-moved_header_none Two chunk words held = absurd (none-some _ (sym held))
  class-moved_header_none Free chunk words held = refl
  class-moved_header_none Short chunk words held = refl

  -- ---- the fields after the move

  module _ (chunk : List ℕ) where
    -- the strong fields, and the others
    abbrev strong_fields : List ℕ
    strong_fields = take (strong memory weak chunk) (fields chunk)

    abbrev other_fields : List ℕ
    other_fields = drop (strong memory weak chunk) (fields chunk)

    -- and both after the move
    abbrev new_strong : List ℕ
    new_strong = map (moved_field memory marks) strong_fields

    abbrev new_others : List ℕ
    new_others = moved_others memory weak marks (is_weak weak chunk) other_fields

    -- the fields after the strong ones are alike
    alike-moved_others : (test : Bool) (others : List ℕ) (k : ℕ)
        → IsAlike (slice_index others k) (slice_index (moved_others memory weak marks test others) k)
    alike-moved_others true others k = alike-map (moved_weak memory weak marks) alike-moved_weak others k
    alike-moved_others false others k = inl refl

    -- and so are all fields
    alike-moved_fields : (k : ℕ) → IsAlike (slice_index (fields chunk) k) (slice_index (moved_fields memory weak marks chunk) k)
    alike-moved_fields k =
        subst (λ words. IsAlike (slice_index words k) (slice_index (moved_fields memory weak marks chunk) k))
        (take-append-drop (strong memory weak chunk) (fields chunk))
        (alike-append strong_fields other_fields new_strong new_others (length-map strong_fields (moved_field memory marks))
        (alike-map (moved_field memory marks) alike-moved_field strong_fields)
        (alike-moved_others (is_weak weak chunk) other_fields) k)

    -- there are as many strong ones
    length-new_strong : length new_strong ≡ strong memory weak chunk
    length-new_strong =
        length-map strong_fields (moved_field memory marks)
        ∙ length-take-le (strong memory weak chunk) (fields chunk) (strong_inside memory weak chunk)

    -- a strong field
    moved_fields-strong : (k : ℕ) → k < strong memory weak chunk
        → slice_index (moved_fields memory weak marks chunk) k ≡ moved_field memory marks (slice_index (fields chunk) k)
    moved_fields-strong k lt =
        let size = length-new_strong in
        let same = length-map strong_fields (moved_field memory marks) in
        get_or_append_left new_strong new_others 0 k (omega arith)
        ∙ get_or-map (moved_field memory marks) strong_fields k 0 0 (omega arith)
        ∙ ap (moved_field memory marks) (get_or-take (strong memory weak chunk) (fields chunk) k 0 lt)

    -- another traced one, which is weak
    moved_fields-weak : (test : Bool) → is_weak weak chunk ≡ test → (k : ℕ) → k < traced chunk → strong memory weak chunk ≤ k
        → slice_index (moved_fields memory weak marks chunk) k ≡ moved_weak memory weak marks (slice_index (fields chunk) k)
    moved_fields-weak true is k lt ge =
        let count = strong memory weak chunk in
        let inside = traced_inside chunk in
        let size = length-drop count (fields chunk) in
        get_or-append_right new_strong new_others count k 0 length-new_strong ge
        ∙ ap (λ test. get_or (moved_others memory weak marks test other_fields) (k - count) 0) is
        ∙ get_or-map (moved_weak memory weak marks) other_fields (k - count) 0 0 (omega arith)
        ∙ ap (moved_weak memory weak marks)
        (get_or-drop count (fields chunk) (k - count) 0 ∙ ap (λ (n : ℕ). get_or (fields chunk) n 0) (omega arith))
    moved_fields-weak false is k lt ge =
        let fixed = unless_above (length (fields chunk)) (fixed_by memory (class_of memory weak chunk)) in
        let all : strong memory weak chunk ≡ traced chunk = ap (λ test. cond test fixed (traced chunk)) is in
        absurd (omega arith)

  -- ---- words of 32 bits after the move

  module _ (sized : length marks ≡ object_count memory) (chunks : AllByRecursion IsChunk memory.chunks)
      (within : memory.base + 4 * live_words memory marks ≤ 2 ^ 32) where
    -- a marked object's base header stands below the end of the live objects
    pub place-inside : (index : ℕ) → is_marked marks index ≡ true → place memory marks index + 4 ≤ 2 ^ 32
    place-inside index is =
        let lt : index < object_count memory = inside (cases_lt index (length marks)) in
        let all = objects_keep IsChunk memory.chunks chunks in
        let words = chunk_words memory index in
        let has : IsChunk words = All_at (λ object. IsChunk object.chunk) (objects memory) index no_object lt all in
        let header : before words < length words = before-chunk words has in
        let more = live_words_more_yes memory marks index lt is in
        let most : live_words_below memory marks (index + 1) ≤ live_words memory marks =
        words_in-marked_take marks (objects memory) (index + 1) in
        omega arith
      where
        inside : (index < length marks) ⊎ (length marks ≤ index) → index < object_count memory
        inside (inl lt) = omega arith
        inside (inr past) = absurd (false≢true (sym (get_or_past marks index false past) ∙ is))

    -- a place or another address, with room behind it
    place-lt : (test : Bool) (index word room : ℕ) → is_marked marks index ≡ test → room < 4 → word + room < 2 ^ 32
        → cond test (place memory marks index) word + room < 2 ^ 32
    place-lt true index word room is few lt = let inside = place-inside index is in omega arith
    place-lt false index word room is few lt = lt

    -- a new address
    new_address-lt : (word room : ℕ) (named : Option ℕ) → room < 4 → word + room < 2 ^ 32
        → new_address memory marks word named + room < 2 ^ 32
    new_address-lt word room None few lt = lt
    new_address-lt word room (Some index) few lt = place-lt (is_marked marks index) index word room refl few lt

    -- a strong field
    moved_field-lt : (word : ℕ) → word < 2 ^ 32 → moved_field memory marks word < 2 ^ 32
    moved_field-lt word lt =
        let new = moved_field memory marks word in
        let below : new + 0 < 2 ^ 32 = new_address-lt word 0 (named_by memory word) (omega arith) (omega arith) in
        omega arith

    -- a class word
    moved_class-lt : (word : ℕ) → word < 2 ^ 32 → moved_class memory marks word < 2 ^ 32
    moved_class-lt word lt =
        new_address-lt (class_address word) (word % 4) (named_by memory (class_address word)) (omega arith) (omega arith)

    -- nil's place, or another word
    nil_place-lt : (word : ℕ) (nil : Option ℕ) → word < 2 ^ 32
        → unwrap_or (option_and_then (place_if_marked memory marks) nil) word < 2 ^ 32
    nil_place-lt word None lt = lt
    nil_place-lt word (Some index) lt = by_test (is_marked marks index) refl
      where
        by_test : (test : Bool) → is_marked marks index ≡ test
            → unwrap_or (cond test (Some (place memory marks index)) None) word < 2 ^ 32
        by_test true is = let inside = place-inside index is in omega arith
        by_test false is = lt

    -- a weak field
    moved_weak-lt : (word : ℕ) → word < 2 ^ 32 → moved_weak memory weak marks word < 2 ^ 32
    moved_weak-lt word lt = by_named (named_by memory word)
      where
        by_named : (named : Option ℕ) → address_or memory marks (nil_place memory weak marks) word named < 2 ^ 32
        by_named None = lt
        by_named (Some index) =
            let other = unwrap_or (nil_place memory weak marks) word in
            let below : other < 2 ^ 32 = nil_place-lt word (nil memory weak) lt in
            let test = is_marked marks index in
            let at : cond test (place memory marks index) other + 0 < 2 ^ 32 =
            place-lt test index other 0 refl (omega arith) (omega arith) in
            omega arith

    -- a header
    AreWords-moved_header : (kind : Kind) (chunk : List ℕ) → AreWords chunk → AreWords (moved_header memory marks kind chunk)
    AreWords-moved_header Three (size ∷ class ∷ base ∷ fields) below =
        AreWords-cons size (moved_class memory marks class ∷ base ∷ []) (below 0)
        (AreWords-cons (moved_class memory marks class) (base ∷ []) (moved_class-lt class (below 1))
        (AreWords-cons base [] (below 2) AreWords-none))
    AreWords-moved_header Two (class ∷ base ∷ fields) below =
        AreWords-cons (moved_class memory marks class) (base ∷ []) (moved_class-lt class (below 0))
        (AreWords-cons base [] (below 1) AreWords-none)
    AreWords-moved_header Free (free ∷ fields) below = AreWords-cons free [] (below 0) AreWords-none
    AreWords-moved_header Short (base ∷ fields) below = AreWords-cons base [] (below 0) AreWords-none
    AreWords-moved_header _ _ below = AreWords-none

    -- the fields
    AreWords-moved_fields : (chunk : List ℕ) → AreWords chunk → AreWords (moved_fields memory weak marks chunk)
    AreWords-moved_fields chunk below =
        AreWords-append (new_strong chunk) (new_others chunk)
        (AreWords-map (moved_field memory marks) moved_field-lt (strong_fields chunk)
        (AreWords-take (strong memory weak chunk) (fields chunk) all))
        (others (is_weak weak chunk))
      where
        all : AreWords (fields chunk)
        all = AreWords-drop (before chunk + 1) chunk below

        behind : AreWords (other_fields chunk)
        behind = AreWords-drop (strong memory weak chunk) (fields chunk) all

        others : (test : Bool) → AreWords (moved_others memory weak marks test (other_fields chunk))
        others true = AreWords-map (moved_weak memory weak marks) moved_weak-lt (other_fields chunk) behind
        others false = behind

  -- ---- an object after the move

  module _ (chunk : List ℕ) (is : IsChunk chunk) where
    -- it has a base header
    headed : before chunk < length chunk
    headed = before-chunk chunk is

    -- after the move it is a chunk of its kind
    moved-IsChunkOf : IsChunkOf is.0 (moved memory weak marks chunk)
    moved-IsChunkOf =
        let kind_is : chunk_kind chunk ≡ is.0 = chunk_kind_is is.0 chunk is.1 in
        let after = moved_fields memory weak marks chunk in
        subst (λ kind. IsChunkOf is.0 (moved_header memory marks kind chunk ++ after)) (sym kind_is)
        (chunk-moved_header is.0 chunk after is.1
        (length-moved_fields memory weak marks chunk
        ∙ ap (λ kind. length (drop (words_before kind + 1) chunk)) kind_is))

    -- the kind stays
    pub moved-kind : chunk_kind (moved memory weak marks chunk) ≡ chunk_kind chunk
    moved-kind = chunk_kind_is is.0 (moved memory weak marks chunk) moved-IsChunkOf ∙ sym (chunk_kind_is is.0 chunk is.1)

    -- as many header words stand before the base header
    pub moved-before : before (moved memory weak marks chunk) ≡ before chunk
    moved-before = ap words_before moved-kind

    -- behind it stand the moved fields
    fields-moved : fields (moved memory weak marks chunk) ≡ moved_fields memory weak marks chunk
    fields-moved =
        ap (λ (count : ℕ). drop (count + 1) (moved memory weak marks chunk)) moved-before
        ∙ drop_at (moved_header memory marks (chunk_kind chunk) chunk) (moved_fields memory weak marks chunk) (before chunk + 1)
        (length-moved_header memory marks (chunk_kind chunk) chunk headed)

    -- the object keeps its shape
    pub moved-shaped : IsShapedAs chunk (moved memory weak marks chunk)
    moved-shaped =
        record {
          kind = moved-kind;
          base =
              ap (slice_index (moved memory weak marks chunk)) moved-before
              ∙ base-moved_header (chunk_kind chunk) chunk (moved_fields memory weak marks chunk) headed;
          sized = ap length fields-moved ∙ length-moved_fields memory weak marks chunk;
          alike =
              λ k. subst (λ words. IsAlike (slice_index (fields chunk) k) (slice_index words k)) (sym fields-moved)
              (alike-moved_fields chunk k);
        }

    -- it is a chunk again
    pub moved-chunk : IsChunk (moved memory weak marks chunk)
    moved-chunk = (is.0, moved-IsChunkOf)

    -- and an object where it was one
    pub moved-object : is_object (moved memory weak marks chunk) ≡ is_object chunk
    moved-object =
        is_object-kind is.0 (moved memory weak marks chunk) moved-IsChunkOf ∙ sym (is_object-kind is.0 chunk is.1)

    -- ---- its slots

    -- a field's slot
    slot_word-moved_field : (k new : ℕ) → ltb k (traced chunk) ≡ true → slice_index (moved_fields memory weak marks chunk) k ≡ new
        → slot_word (moved memory weak marks chunk) (Field k) ≡ Some new
    slot_word-moved_field k new tested same =
        let after = moved memory weak marks chunk in
        ap (λ (count : ℕ). cond (ltb k count) (Some (slice_index (fields after) k)) None)
        (traced-shaped chunk after moved-shaped)
        ∙ ap (λ (test : Bool). cond test (Some (slice_index (fields after) k)) None) tested
        ∙ ap (λ (words : List ℕ). Some (slice_index words k)) fields-moved
        ∙ ap Some same

    -- what a slot holds after the move: a strong one the new address, and another one that or nil's
    pub slot_word-moved : (slot : Slot) (word : ℕ) → slot_word chunk slot ≡ Some word
        → ((slot_word (moved memory weak marks chunk) slot ≡ Some (moved_field memory marks word))
        × (word_among (strong memory weak chunk) chunk slot ≡ Some word))
        ⊎ (slot_word (moved memory weak marks chunk) slot ≡ Some (moved_weak memory weak marks word))
    slot_word-moved ClassWord word held =
        let after = moved memory weak marks chunk in
        let new = class-moved_header (chunk_kind chunk) chunk (moved_fields memory weak marks chunk) word headed held in
        inl (ap (λ kind. option_map class_address (class_word kind after)) moved-kind ∙ new, held)
    slot_word-moved (Field k) word held =
        let tested = (held_where (ltb k (traced chunk)) (slice_index (fields chunk) k) word held).0 in
        let at = (held_where (ltb k (traced chunk)) (slice_index (fields chunk) k) word held).1 in
        elim (cases_lt k (strong memory weak chunk)) [
          | inl lt ↦
              let new = moved_fields-strong chunk k lt ∙ ap (moved_field memory marks) at in
              let test = lt-ltb k (strong memory weak chunk) lt in
              let old = ap (λ (test : Bool). cond test (Some (slice_index (fields chunk) k)) None) test ∙ ap Some at in
              inl (slot_word-moved_field k (moved_field memory marks word) tested new, old)
          | inr behind ↦
              let lt = ltb-true k (traced chunk) tested in
              let new = moved_fields-weak chunk (is_weak weak chunk) refl k lt behind ∙ ap (moved_weak memory weak marks) at in
              inr (slot_word-moved_field k (moved_weak memory weak marks word) tested new)
        ]

    -- and there are no other slots
    pub slot_word-moved_none : (slot : Slot) → slot_word chunk slot ≡ None → slot_word (moved memory weak marks chunk) slot ≡ None
    slot_word-moved_none ClassWord held =
        let after = moved memory weak marks chunk in
        ap (λ kind. option_map class_address (class_word kind after)) moved-kind
        ∙ class-moved_header_none (chunk_kind chunk) chunk after held
    slot_word-moved_none (Field k) held =
        let after = moved memory weak marks chunk in
        ap (λ (count : ℕ). cond (ltb k count) (Some (slice_index (fields after) k)) None)
        (traced-shaped chunk after moved-shaped)
        ∙ ap (λ (test : Bool). cond test (Some (slice_index (fields after) k)) None)
        (not_held_where (ltb k (traced chunk)) (slice_index (fields chunk) k) held)

    -- its words are words of 32 bits again, where all live objects stand below the end
    pub moved-lt : length marks ≡ object_count memory → AllByRecursion IsChunk memory.chunks
        → memory.base + 4 * live_words memory marks ≤ 2 ^ 32
        → ((k : ℕ) → slice_index chunk k < 2 ^ 32) → (k : ℕ) → slice_index (moved memory weak marks chunk) k < 2 ^ 32
    moved-lt sized chunks within below =
        AreWords-append (moved_header memory marks (chunk_kind chunk) chunk) (moved_fields memory weak marks chunk)
        (AreWords-moved_header sized chunks within (chunk_kind chunk) chunk below)
        (AreWords-moved_fields sized chunks within chunk below)
