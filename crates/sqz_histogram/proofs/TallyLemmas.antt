-- Tallies, as objects are counted one after the other.
-- Serves `tallies::tallies_of`.
use Rattle.std.proofs.Common.{◌≡◌, ℕ, ◌+◌, ◌^◌, ◌<◌, ◌≤◌, Bool, true, false, cond, List, [], ◌∷◌, ◌++◌, filter}
use Rattle.std.proofs.Common.{length, get_or, take}
use Rattle.std.proofs.Common.{refl, sym, ap, subst, ◌∙◌, arith, inl, inr, set, replicate, append-nil}
use Rattle.std.specs.List.{concat}
use Rattle.std.proofs.lemmas.Bool.{cases_eq, cases_Bool}
use Rattle.std.proofs.lemmas.List.{length-append, length-set, get_or-set_same, get_or-set_other, get_or_default}
use Rattle.std.proofs.lemmas.List.{length-replicate, get_or-replicate}
use Rattle.std.proofs.lemmas.List.Sums.{length-filter, count_by-le-length, sum_by-append}
use Rattle.std.proofs.lemmas.List.Elements.{filter-append}
use Rattle.sqz_image.specs.Objects.{Memory, Object, objects, object_count, object_at, chunk_words, words_in}
use Rattle.sqz_trace.specs.declared.weak.Weak.{Weak}
use Rattle.sqz_trace.specs.Graph.{is_marked}
use Rattle.sqz_trace.specs.Live.{marked, live}
use Rattle.sqz_trace.proofs.MarkedLemmas.{marked_more_yes, marked_more_no, marked_all}
use Rattle.sqz_trace.proofs.LiveWordLemmas.{size, words_in-cons, live_objects-le, live_words_more_yes}
use Rattle.sqz_trace.proofs.LiveWordLemmas.{live_words_below-le-words, live_words-le-words}
use Rattle.sqz_histogram.specs.declared.tallies.Tally.{Tally}
use Rattle.sqz_histogram.specs.declared.entries.Entry.{Entry}
use Rattle.sqz_histogram.specs.declared.group.Group.{Group}
use Rattle.sqz_histogram.specs.Groups.{is_same, group_of}
use Rattle.sqz_histogram.specs.Keys.{key_of, group_with, key_count, no_group, IsLiveEntry, IsEntryOf}
use Rattle.sqz_histogram.specs.Tallies.{tally_in, no_tally, AreTalliesOf, AreTalliesBelow, AreTallies, FitWords}
use Rattle.sqz_histogram.proofs.GroupLemmas.{no_object, group_of-inside, key_of-lt, is_same-key, is_same-other}

-- a tally with one object more
abbrev pub with_one : Tally → ℕ → Tally
with_one tally words = record { count = tally.count + 1; words = tally.words + words }

-- what a filter keeps has no more words than all
words_in-filter : (p : Object → Bool) (objects : List Object) → words_in (filter p objects) ≤ words_in objects
words_in-filter p [] = omega arith
words_in-filter p (object ∷ objects) = by_test (p object) (words_in-filter p objects)
  where
    by_test : (test : Bool) → words_in (filter p objects) ≤ words_in objects
        → words_in (cond test (object ∷ filter p objects) (filter p objects)) ≤ words_in (object ∷ objects)
    by_test true le = omega (arith, words_in-cons object (filter p objects), words_in-cons object objects)
    by_test false le = omega (arith, words_in-cons object objects)

module _ (memory : Memory) (weak : Weak) where
  abbrev has : Group → Object → Bool
  has group object = is_same group (group_of memory weak object.chunk)

  -- one more object of the group
  tally_in-more_yes : (objects : List Object) (object : Object) (group : Group) → has group object ≡ true
      → tally_in memory weak (objects ++ object ∷ []) group ≡ with_one (tally_in memory weak objects group) (length object.chunk)
  tally_in-more_yes objects object group is =
      let one : filter (has group) (object ∷ []) ≡ object ∷ [] = rw is refl in
      let all : filter (has group) (objects ++ object ∷ []) ≡ filter (has group) objects ++ object ∷ [] =
      filter-append (has group) objects (object ∷ []) ∙ ap (λ (one : List Object). filter (has group) objects ++ one) one in
      let counted = length-append (filter (has group) objects) (object ∷ []) in
      let added = sum_by-append size (filter (has group) objects) (object ∷ []) in
      let single = words_in-cons object [] in
      let words : words_in (filter (has group) objects ++ object ∷ []) ≡ words_in (filter (has group) objects) + length object.chunk =
      omega (arith, added, single) in
      ap (λ (kept : List Object). record { count = length kept; words = words_in kept }) all
      ∙ (λ i. record { count = counted i; words = words i })

  -- one more object of another group
  tally_in-more_no : (objects : List Object) (object : Object) (group : Group) → has group object ≡ false
      → tally_in memory weak (objects ++ object ∷ []) group ≡ tally_in memory weak objects group
  tally_in-more_no objects object group is =
      let none : filter (has group) (object ∷ []) ≡ [] = rw is refl in
      let all : filter (has group) (objects ++ object ∷ []) ≡ filter (has group) objects =
      filter-append (has group) objects (object ∷ []) ∙ ap (λ (none : List Object). filter (has group) objects ++ none) none
      ∙ append-nil (filter (has group) objects) in
      ap (λ (kept : List Object). record { count = length kept; words = words_in kept }) all

  -- no object is counted yet
  pub AreTalliesOf-none : (count : ℕ) → count ≡ key_count memory → AreTalliesOf memory weak [] (replicate count no_tally)
  AreTalliesOf-none count is =
      record {
        sized = length-replicate count no_tally ∙ is;
        each = λ key lt. get_or-replicate count key no_tally no_tally (omega arith);
      }

  -- one object more
  AreTalliesOf-more : (objects : List Object) (object : Object) (key : ℕ) (tallies : List Tally)
      → key ≡ key_of (object_count memory) (group_of memory weak object.chunk)
      → AreTalliesOf memory weak objects tallies
      → AreTalliesOf memory weak (objects ++ object ∷ [])
      (set tallies key (with_one (get_or tallies key no_tally) (length object.chunk)))
  AreTalliesOf-more objects object key tallies key_is are =
      let count = object_count memory in
      let group = group_of memory weak object.chunk in
      let inside = group_of-inside memory weak object.chunk in
      let low : key < key_count memory = omega (arith, key_of-lt count group inside) in
      let changed = with_one (get_or tallies key no_tally) (length object.chunk) in
      let here : has (group_with count key) object ≡ true =
      ap (λ (key : ℕ). is_same (group_with count key) group) key_is ∙ is_same-key count group inside in
      record {
        sized = length-set tallies key changed ∙ are.sized;
        each = λ other lt.
            elim (cases_eq other key) [
              | inl same ↦
                  rw same
                  (get_or-set_same tallies key changed no_tally (omega (arith, are.sized))
                  ∙ ap (λ (tally : Tally). with_one tally (length object.chunk)) (are.each key low)
                  ∙ sym (tally_in-more_yes objects object (group_with count key) here))
              | inr apart ↦
                  let fails = is_same-other count other group inside (λ same. apart (same ∙ sym key_is)) in
                  get_or-set_other tallies key other changed no_tally apart
                  ∙ are.each other lt
                  ∙ sym (tally_in-more_no objects object (group_with count other) fails)
            ];
      }

module _ (memory : Memory) (weak : Weak) (marks : List Bool) (index : ℕ) (inside : index < object_count memory) (tallies : List Tally)
    (are : AreTalliesBelow memory weak marks index tallies) where
  -- an object that is not marked is not counted
  pub AreTalliesBelow-more_no : is_marked marks index ≡ false → AreTalliesBelow memory weak marks (index + 1) tallies
  AreTalliesBelow-more_no is =
      subst (λ (live : List Object). AreTalliesOf memory weak live tallies)
      (sym (marked_more_no marks (objects memory) index inside is)) are

  module _ (entry : Entry) (is : is_marked marks index ≡ true) (known : IsLiveEntry memory weak index entry) where
    -- its key has a tally
    pub live_key-lt : entry.key < key_count memory
    live_key-lt =
        let chunk = chunk_words memory index in
        omega (arith, known.key, key_of-lt (object_count memory) (group_of memory weak chunk) (group_of-inside memory weak chunk))

    -- a live object is counted
    pub AreTalliesBelow-more_yes : AreTalliesBelow memory weak marks (index + 1)
        (set tallies entry.key (with_one (get_or tallies entry.key no_tally) entry.words))
    AreTalliesBelow-more_yes =
        let object = object_at memory index in
        let below = marked (take index marks) (take index (objects memory)) in
        let more = AreTalliesOf-more memory weak below object entry.key tallies known.key are in
        let with_words : ℕ → List Tally =
        λ words. set tallies entry.key (with_one (get_or tallies entry.key no_tally) words) in
        let counted = subst (λ (words : ℕ). AreTalliesOf memory weak (below ++ object ∷ []) (with_words words)) (sym known.words) more in
        subst (λ (live : List Object). AreTalliesOf memory weak live (with_words entry.words))
        (sym (marked_more_yes marks (objects memory) index no_object inside is)) counted

    -- there is room for it
    pub tally_room : length (concat memory.chunks) < 2 ^ 30 → index < 2 ^ 30
        → ((get_or tallies entry.key no_tally).count + 1 < 2 ^ 32)
        × ((get_or tallies entry.key no_tally).words + entry.words < 2 ^ 32)
    tally_room few_words few =
        let group = group_with (object_count memory) entry.key in
        let below = marked (take index marks) (take index (objects memory)) in
        let kept = filter (λ (object : Object). is_same group (group_of memory weak object.chunk)) below in
        let tally = are.each entry.key live_key-lt in
        let count_is : (get_or tallies entry.key no_tally).count ≡ length kept = ap (λ (tally : Tally). tally.count) tally in
        let words_is : (get_or tallies entry.key no_tally).words ≡ words_in kept = ap (λ (tally : Tally). tally.words) tally in
        let fewer = length-filter (λ (object : Object). is_same group (group_of memory weak object.chunk)) below in
        let among = count_by-le-length (λ (object : Object). is_same group (group_of memory weak object.chunk)) below in
        let shorter = words_in-filter (λ (object : Object). is_same group (group_of memory weak object.chunk)) below in
        let live = live_objects-le memory marks index in
        let more = live_words_more_yes memory marks index inside is in
        let most = live_words_below-le-words memory marks (index + 1) in
        (omega (arith, count_is, fewer, among, live), omega (arith, words_is, shorter, more, most, known.words))

module _ (memory : Memory) (weak : Weak) (marks : List Bool) (index : ℕ) (inside : index < object_count memory) (tallies : List Tally)
    (are : AreTalliesBelow memory weak marks index tallies) (entry : Entry) (is : IsEntryOf memory weak marks index entry) where
  -- the key of a marked object is not that of the others
  pub no_group_more : entry.key ≡ no_group → object_count memory < 2 ^ 30 → AreTalliesBelow memory weak marks (index + 1) tallies
  no_group_more key_is few =
      elim (cases_Bool (is_marked marks index)) [
        | inl alive ↦
            let lt = live_key-lt memory weak marks index inside tallies are entry alive (is.marked alive) in absurd (omega (arith, lt))
        | inr unmarked ↦ AreTalliesBelow-more_no memory weak marks index inside tallies are unmarked
      ]

  module _ (alive : entry.key ≡ no_group → ⊥) where
    its_mark : is_marked marks index ≡ true
    its_mark =
        elim (cases_Bool (is_marked marks index)) [
          | inl marked ↦ marked
          | inr unmarked ↦ absurd (alive (is.unmarked unmarked))
        ]

    -- any other key has a tally
    pub entry_key-lt : entry.key < length tallies
    entry_key-lt = omega (arith, are.sized, live_key-lt memory weak marks index inside tallies are entry its_mark (is.marked its_mark))

    module _ (tally : Tally) (tally_is : tally ≡ get_or tallies entry.key tally) where
      there : tally ≡ get_or tallies entry.key no_tally
      there = tally_is ∙ get_or_default tallies entry.key tally no_tally entry_key-lt

      -- there is room in it
      pub entry_room : length (concat memory.chunks) < 2 ^ 30 → index < 2 ^ 30
          → (tally.count + 1 < 2 ^ 32) × (tally.words + entry.words < 2 ^ 32)
      entry_room few_words few =
          let room = tally_room memory weak marks index inside tallies are entry its_mark (is.marked its_mark) few_words few in
          let count_is = ap (λ (tally : Tally). tally.count) there in
          let words_is = ap (λ (tally : Tally). tally.words) there in
          (omega (arith, count_is, room.0), omega (arith, words_is, room.1))

      -- and the object is counted in it
      pub entry_more : AreTalliesBelow memory weak marks (index + 1)
          (set tallies entry.key (record { count = tally.count + 1; words = tally.words + entry.words }))
      entry_more =
          let more = AreTalliesBelow-more_yes memory weak marks index inside tallies are entry its_mark (is.marked its_mark) in
          let Next : Tally → Type 0 =
          λ tally. AreTalliesBelow memory weak marks (index + 1) (set tallies entry.key (with_one tally entry.words)) in
          subst Next (sym there) more

-- tallies fit, where the data words do
pub FitWords-tallies : (memory : Memory) (weak : Weak) (marks : List Bool) (tallies : List Tally)
    → length marks ≡ object_count memory → length (concat memory.chunks) < 2 ^ 30 → object_count memory < 2 ^ 30
    → AreTallies memory weak marks tallies → FitWords tallies
FitWords-tallies memory weak marks tallies sized few_words few are =
    record {
      sized = omega (arith, are.sized);
      each = λ key lt.
          let group = group_with (object_count memory) key in
          let tally = are.each key (omega (arith, are.sized)) in
          let words_is = ap (λ (tally : Tally). tally.words) tally in
          let shorter = words_in-filter (λ (object : Object). is_same group (group_of memory weak object.chunk)) (live memory marks) in
          omega (arith, words_is, shorter, live_words-le-words memory marks sized);
    }

-- the tallies below the end are those of all marked objects
pub AreTallies-all : (memory : Memory) (weak : Weak) (marks : List Bool) (index : ℕ) (tallies : List Tally)
    → length marks ≡ object_count memory → object_count memory ≤ index
    → AreTalliesBelow memory weak marks index tallies → AreTallies memory weak marks tallies
AreTallies-all memory weak marks index tallies sized le are =
    subst (λ (live : List Object). AreTalliesOf memory weak live tallies)
    (marked_all marks (objects memory) index (omega arith) le) are
