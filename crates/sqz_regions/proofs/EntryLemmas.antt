-- The entries of a table of new addresses, from those of ranges of objects.
-- Serves `forward::places_between`, `forward::range_places` and `forward::Forward::build`.
use Rattle.std.proofs.Common.{◌≡◌, ℕ, zero, suc, ◌+◌, ◌-◌, ◌*◌, ◌^◌, ◌<◌, ◌≤◌, Bool, true, false, List, [], ◌∷◌, ◌++◌}
use Rattle.std.proofs.Common.{map, length, get_or, refl, sym, ap, subst, ◌∙◌, arith, inl, inr, None, Ok, Result}
use Rattle.std.specs.Prelude.{IfOk}
use Rattle.std.specs.List.{AllZip, concat, flat_map, range_with_len}
use Rattle.std.specs.Int.{div_ceil}
use Rattle.std.proofs.lemmas.Bool.{cases_lt, lt-ltb, le-ltb, ne_eqb}
use Rattle.std.proofs.lemmas.List.{length-map, get_or-map, map-append}
use Rattle.std.proofs.lemmas.List.FromFn.{length-map-range_with_len, get_or-map-range_with_len}
use Rattle.sqz_object.specs.declared.chunk.Chunk.{Chunk}
use Rattle.sqz_object.specs.Reading.{description}
use Rattle.sqz_image.specs.Objects.{Memory, object_count, chunk_words}
use Rattle.sqz_trace.specs.Graph.{is_marked}
use Rattle.sqz_regions.specs.Places.{place, no_place, place_of_entry}
use Rattle.sqz_trace.specs.Live.{live_words_below}
use Rattle.sqz_regions.specs.Regions.{Cutting, Regioning, region_at, objects_before}
use Rattle.sqz_regions.specs.Bases.{place_if_marked, ArePlacesOf}
use Rattle.sqz_regions.specs.Entries.{entry_of, entries_between, HaveRoom, AreEntriesOf, range_begin, AreEntriesOfRange}
use Rattle.sqz_trace.proofs.LiveWordLemmas.{live_words_more_yes, live_words_below-le-words}
use Rattle.sqz_regions.proofs.RegionLemmas.{region_at-rises, objects_before-rises, objects_before-le}
use Rattle.sqz_regions.proofs.RisingLemmas.{objects_before-first}

-- ---- values of a function at the numbers of a range

-- the numbers of one range and of the next
range_with_len-append : (from first second : ℕ)
    → range_with_len from first ++ range_with_len (from + first) second ≡ range_with_len from (first + second)
range_with_len-append from zero second =
    let same : from + 0 ≡ from = omega arith in
    let all : 0 + second ≡ second = omega arith in
    rw (same, all) refl
range_with_len-append from (suc first) second =
    let next : from + suc first ≡ (from + 1) + first = omega arith in
    let all : suc first + second ≡ suc (first + second) = omega arith in
    rw (next, all) (ap (λ (ns : List ℕ). from ∷ ns) (range_with_len-append (from + 1) first second))

module _ {X : Type 0} (f : ℕ → X) where
  -- the values at the numbers from one on, up to another
  abbrev between : ℕ → ℕ → List X
  between from to = map f (range_with_len from (to - from))

  between-append : (from mid to : ℕ) → from ≤ mid → mid ≤ to → between from mid ++ between mid to ≡ between from to
  between-append from mid to low high =
      let begins : from + (mid - from) ≡ mid = omega arith in
      let long : (mid - from) + (to - mid) ≡ to - from = omega arith in
      sym (map-append f (range_with_len from (mid - from)) (range_with_len mid (to - mid)))
      ∙ ap (λ next. map f (range_with_len from (mid - from) ++ range_with_len next (to - mid))) (sym begins)
      ∙ ap (map f) (range_with_len-append from (mid - from) (to - mid))
      ∙ ap (λ long. map f (range_with_len from long)) long

-- ---- entries

module _ (memory : Memory) (marks : List Bool) where
  -- the entry of a marked object
  entry_of-marked : (index : ℕ) → is_marked marks index ≡ true → entry_of memory marks index ≡ place memory marks index
  entry_of-marked index is = rw is refl

  -- the entry of another
  entry_of-unmarked : (index : ℕ) → is_marked marks index ≡ false → entry_of memory marks index ≡ no_place
  entry_of-unmarked index is = rw is refl

  -- where the live words from a marked object on go: the object's place, the room behind it,
  -- and where those after the object go
  pub placed : (index next : ℕ) (chunk : Chunk) → index < object_count memory → is_marked marks index ≡ true
      → chunk ≡ description (chunk_words memory index) → chunk.before < chunk.length
      → memory.base + 4 * length (concat memory.chunks) ≤ 2 ^ 32
      → next ≡ memory.base + 4 * live_words_below memory marks index
      → (next + 4 * chunk.before ≡ place memory marks index) × (place memory marks index + 4 ≤ 2 ^ 32)
      × (next + 4 * chunk.length ≡ memory.base + 4 * live_words_below memory marks (index + 1))
      × (next + 4 * chunk.length ≤ 2 ^ 32)
  placed index next chunk lt is described headed within next_is =
      let before_is = ap (λ (chunk : Chunk). chunk.before) described in
      let words_is = ap (λ (chunk : Chunk). chunk.length) described in
      let more = live_words_more_yes memory marks index lt is in
      let most = live_words_below-le-words memory marks (index + 1) in
      (omega arith, omega arith, omega arith, omega arith)

  -- no entries
  pub AreEntriesOf-none : (from : ℕ) → AreEntriesOf memory marks from from []
  AreEntriesOf-none from =
      let none : from - from ≡ 0 = omega arith in
      record { same = rw none refl; room = λ index ge lt is. absurd (omega arith) }

  -- the entries of a range, and those of the next
  pub AreEntriesOf-append : (from mid to : ℕ) (first second : List ℕ) → from ≤ mid → mid ≤ to
      → AreEntriesOf memory marks from mid first → AreEntriesOf memory marks mid to second
      → AreEntriesOf memory marks from to (first ++ second)
  AreEntriesOf-append from mid to first second low high h k =
      record {
        same = (λ i. h.same i ++ k.same i) ∙ between-append (entry_of memory marks) from mid to low high;
        room = λ index ge lt is. elim (cases_lt index mid) [
          | inl below ↦ h.room index ge below is
          | inr above ↦ k.room index above lt is
        ];
      }

  -- one entry
  entry_one : (index : ℕ) → entries_between memory marks index (index + 1) ≡ entry_of memory marks index ∷ []
  entry_one index = let one : index + 1 - index ≡ 1 = omega arith in rw one refl

  -- one more entry, of a marked object
  pub AreEntriesOf-push_marked : (from index entry : ℕ) (entries : List ℕ) → from ≤ index → is_marked marks index ≡ true
      → entry ≡ place memory marks index → place memory marks index + 4 ≤ 2 ^ 32
      → AreEntriesOf memory marks from index entries
      → AreEntriesOf memory marks from (index + 1) (entries ++ entry ∷ [])
  AreEntriesOf-push_marked from index entry entries ge is entry_is room h =
      AreEntriesOf-append from index (index + 1) entries (entry ∷ []) ge (omega arith) h
      (record {
        same = ap (λ (e : ℕ). e ∷ []) (entry_is ∙ sym (entry_of-marked index is)) ∙ sym (entry_one index);
        room = λ other low high marked. let same : other ≡ index = omega arith in rw same room;
      })

  -- one more entry, of another
  pub AreEntriesOf-push_unmarked : (from index : ℕ) (entries : List ℕ) → from ≤ index → is_marked marks index ≡ false
      → AreEntriesOf memory marks from index entries
      → AreEntriesOf memory marks from (index + 1) (entries ++ no_place ∷ [])
  AreEntriesOf-push_unmarked from index entries ge is h =
      AreEntriesOf-append from index (index + 1) entries (no_place ∷ []) ge (omega arith) h
      (record {
        same = ap (λ (e : ℕ). e ∷ []) (sym (entry_of-unmarked index is)) ∙ sym (entry_one index);
        room = λ other low high marked.
            let same : other ≡ index = omega arith in
            let unmarked : is_marked marks other ≡ false = rw same is in
            absurd (cc (marked, unmarked));
      })

-- ---- ranges

-- what there is of a range: its entries, or an error
abbrev pub IsRangePart : {V : Type 0}
    → Cutting → Memory → List Bool → (E : Type 0) → (V → List ℕ) → ℕ → Result V E → Type 0
IsRangePart cut memory marks E items range part =
    IfOk part (λ part. AreEntriesOfRange cut memory marks range (items part))

module _ (cut : Cutting) (memory : Memory) where
  -- where a range begins
  pub range_begin-inside : (range : ℕ) → range * 4096 < object_count memory
      → range_begin cut memory range ≡ objects_before cut memory (region_at cut memory (range * 4096))
  range_begin-inside range lt = rw (lt-ltb (range * 4096) (object_count memory) lt) refl

  -- after the last range
  pub range_begin-past : (range : ℕ) → object_count memory ≤ range * 4096
      → range_begin cut memory range ≡ object_count memory
  range_begin-past range le = rw (le-ltb (range * 4096) (object_count memory) le) refl

  -- a range begins among the objects, or at their end
  pub range_begin-le-object_count : (range : ℕ) → range_begin cut memory range ≤ object_count memory
  range_begin-le-object_count range =
      elim (cases_lt (range * 4096) (object_count memory)) [
        | inl lt ↦
            let le = objects_before-le cut memory (region_at cut memory (range * 4096)) in
            omega (arith, range_begin-inside range lt, le)
        | inr ge ↦ omega (arith, range_begin-past range ge)
      ]

  -- no range begins after the next one
  pub range_begin-rises : (range : ℕ) → range_begin cut memory range ≤ range_begin cut memory (range + 1)
  range_begin-rises range =
      elim (cases_lt ((range + 1) * 4096) (object_count memory)) [
        | inl lt ↦
            let inside : range * 4096 < object_count memory = omega arith in
            let rises = region_at-rises cut memory (range * 4096) ((range + 1) * 4096) (omega arith) lt in
            let le = objects_before-rises cut memory _ _ rises in
            omega (arith, range_begin-inside range inside, range_begin-inside (range + 1) lt, le)
        | inr ge ↦ omega (arith, range_begin-past (range + 1) ge, range_begin-le-object_count range)
      ]

  -- the first range begins with the first object
  pub range_begin-zero : range_begin cut memory 0 ≡ 0
  range_begin-zero =
      elim (cases_lt 0 (object_count memory)) [
        | inl lt ↦ range_begin-inside 0 lt ∙ objects_before-first cut memory lt
        | inr ge ↦ range_begin-past 0 ge ∙ omega arith
      ]

  -- a later range does not begin before an earlier one
  range_begin-along : (range count : ℕ) → range_begin cut memory range ≤ range_begin cut memory (range + count)
  range_begin-along range zero = let same : range + 0 ≡ range = omega arith in rw same (omega arith)
  range_begin-along range (suc count) =
      let next : range + suc count ≡ (range + count) + 1 = omega arith in
      rw next (omega (arith, range_begin-along range count, range_begin-rises (range + count)))

  -- the entries of some ranges, in one list
  AreEntriesOf-ranges : {V : Type 0} (E : Type 0) (items : V → List ℕ) (marks : List Bool)
      → (range count : ℕ) (parts : List V)
      → AllZip (IsRangePart cut memory marks E items) (range_with_len range count) (map Ok parts)
      → AreEntriesOf memory marks (range_begin cut memory range) (range_begin cut memory (range + count))
      (flat_map items parts)
  AreEntriesOf-ranges E items marks range zero [] h =
      let same : range + 0 ≡ range = omega arith in
      rw same (AreEntriesOf-none memory marks (range_begin cut memory range))
  AreEntriesOf-ranges E items marks range zero (part ∷ parts) h = absurd h
  AreEntriesOf-ranges E items marks range (suc count) [] h = absurd h
  AreEntriesOf-ranges E items marks range (suc count) (part ∷ parts) h =
      let next : range + suc count ≡ (range + 1) + count = omega arith in
      rw next
      (AreEntriesOf-append memory marks
      (range_begin cut memory range) (range_begin cut memory (range + 1)) (range_begin cut memory ((range + 1) + count))
      (items part) (flat_map items parts) (range_begin-rises range) (range_begin-along (range + 1) count)
      h.0 (AreEntriesOf-ranges E items marks (range + 1) count parts h.1))

-- the entries between two objects are those of a range that begins and ends there
pub AreEntriesOfRange-between : (regions : Regioning) (memory : Memory) (marks : List Bool)
    → (range from to : ℕ) (entries : List ℕ)
    → regions.memory ≡ memory → from ≡ range_begin regions.cut regions.memory range
    → to ≡ range_begin regions.cut regions.memory (range + 1)
    → AreEntriesOf memory marks from to entries → AreEntriesOfRange regions.cut memory marks range entries
AreEntriesOfRange-between regions memory marks range from to entries same from_is to_is h =
    let begins = from_is ∙ ap (λ (memory : Memory). range_begin regions.cut memory range) same in
    let ends = to_is ∙ ap (λ (memory : Memory). range_begin regions.cut memory (range + 1)) same in
    subst (λ (to : ℕ). AreEntriesOf memory marks (range_begin regions.cut memory range) to entries) ends
    (subst (λ (from : ℕ). AreEntriesOf memory marks from to entries) begins h)

-- the ranges end at the count or behind it
pub ranges_end : (count : ℕ) → count ≤ div_ceil count 4096 * 4096
ranges_end count = omega arith

-- a range that there is begins inside
pub range_begins : (count range : ℕ) → range < div_ceil count 4096 → range * 4096 < count
range_begins count range lt = omega arith

-- the entries of all ranges, in one list, are those of all objects
pub AreEntriesOf-all_ranges : {V : Type 0} (E : Type 0) (items : V → List ℕ)
    → (cut : Cutting) (memory : Memory) (marks : List Bool)
    → (count : ℕ) (parts : List V) → count ≡ div_ceil (object_count memory) 4096
    → AllZip (IsRangePart cut memory marks E items) (range_with_len 0 count) (map Ok parts)
    → AreEntriesOf memory marks 0 (object_count memory) (flat_map items parts)
AreEntriesOf-all_ranges E items cut memory marks count parts count_is h =
    let all = AreEntriesOf-ranges cut memory E items marks 0 count parts h in
    let end = ranges_end (object_count memory) in
    let ends = range_begin-past cut memory (0 + count) (omega arith) in
    let entries = flat_map items parts in
    let to_end = subst (λ (to : ℕ). AreEntriesOf memory marks (range_begin cut memory 0) to entries) ends all in
    subst (λ (from : ℕ). AreEntriesOf memory marks from (object_count memory) entries) (range_begin-zero cut memory)
    to_end

-- ---- the whole table

module _ (memory : Memory) (marks : List Bool) (entries : List ℕ)
    (are : AreEntriesOf memory marks 0 (object_count memory) entries) where
  -- there is one for each object
  pub length-entries : length entries ≡ object_count memory
  length-entries =
      ap length are.same ∙ length-map-range_with_len (entry_of memory marks) 0 (object_count memory - 0) ∙ omega arith

  -- which is the object's
  entries-each : (index : ℕ) → index < object_count memory → get_or entries index 0 ≡ entry_of memory marks index
  entries-each index lt =
      ap (λ entries. get_or entries index 0) are.same
      ∙ get_or-map-range_with_len (entry_of memory marks) 0 (object_count memory - 0) index index 0
      (omega arith) (omega arith)

  -- behind each place there is room for a word
  pub HaveRoom-entries : HaveRoom entries
  HaveRoom-entries index lt not_dead =
      let inside : index < object_count memory = omega (arith, length-entries) in
      by_mark inside (is_marked marks index) refl
    where
      by_mark : index < object_count memory → (mark : Bool) → is_marked marks index ≡ mark
          → get_or entries index 0 + 4 ≤ 2 ^ 32
      by_mark inside true is =
          let room = are.room index (omega arith) inside is in
          omega (arith, entries-each index inside, entry_of-marked memory marks index is, room)
      by_mark inside false is = absurd (not_dead (entries-each index inside ∙ entry_of-unmarked memory marks index is))

  -- the entry of an object stands for its place, if it is marked
  place_of_entry-entry_of : (index : ℕ) → index < object_count memory
      → place_of_entry (entry_of memory marks index) ≡ place_if_marked memory marks index
  place_of_entry-entry_of index lt = by_mark (is_marked marks index) refl
    where
      by_mark : (mark : Bool) → is_marked marks index ≡ mark
          → place_of_entry (entry_of memory marks index) ≡ place_if_marked memory marks index
      by_mark true is =
          let room = are.room index (omega arith) lt is in
          let alive = ne_eqb (place memory marks index) no_place (λ is_dead. absurd (omega (arith, room))) in
          rw is (rw alive refl)
      by_mark false is = rw is refl

  -- the entries stand for the places
  pub ArePlacesOf-entries : ArePlacesOf memory marks (map place_of_entry entries)
  ArePlacesOf-entries =
      record {
        sized = length-map entries place_of_entry ∙ length-entries;
        each = λ index lt.
            get_or-map place_of_entry entries index 0 None (omega (arith, length-entries))
            ∙ ap place_of_entry (entries-each index lt)
            ∙ place_of_entry-entry_of index lt;
      }
