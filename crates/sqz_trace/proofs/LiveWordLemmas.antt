-- The words of the marked objects of a memory, all of them and those below an object.
-- Serves `forward::places_between`, `sums::live_words_between`, `EntryLemmas`, `ListedLemmas` and
-- `SumLemmas` of `sqz_regions`; `piece_sizes::piece_size`, `MovedShapeLemmas`, `SettledLemmas` and
-- `SizeLemmas` of `sqz_slide`; `SumLemmas` and `TallyLemmas` of `sqz_histogram`; `CensusLemmas` of
-- `sqz_census`; `SumLemmas` of `sqz_facts`; `compaction::moved` of `sqz_tool`.
use Rattle.std.proofs.Common.{◌≡◌, ℕ, zero, suc, ◌+◌, ◌<◌, ◌≤◌, Bool, true, false, cond, List, [], ◌∷◌, ◌++◌}
use Rattle.std.proofs.Common.{map, length, get_or, take, refl, ap, ◌∙◌, arith}
use Rattle.std.specs.List.{count_by, concat}
use Rattle.std.proofs.lemmas.List.{length-take, length-append}
use Rattle.std.proofs.lemmas.List.Sums.{sum_by-cons, sum_by_push, sum_by-take-le}
use Rattle.sqz_object.specs.Chunk.{is_object}
use Rattle.sqz_image.specs.Objects.{Memory, Object, objects_of, moved_on, objects, object_count, object_at, words_in}
use Rattle.sqz_image.specs.Objects.{chunk_words}
use Rattle.sqz_trace.specs.Live.{marked, live, live_words_below, live_words}
use Rattle.sqz_trace.proofs.MarkedLemmas.{marked_more_yes, marked_more_no, marked_all}
use Rattle.sqz_trace.proofs.MarkedLemmas.{length-marked, length-marked_count}

abbrev pub no_object : Object
no_object = record { first = 0; chunk = [] }

abbrev pub size : Object → ℕ
size object = length object.chunk

-- one object and the others
pub words_in-cons : (object : Object) (objects : List Object)
    → words_in (object ∷ objects) ≡ length object.chunk + words_in objects
words_in-cons object objects = sum_by-cons size object objects

-- objects behind more words have as many words
pub words_in-moved_on : (count : ℕ) (objects : List Object)
    → words_in (map (moved_on count) objects) ≡ words_in objects
words_in-moved_on count [] = refl
words_in-moved_on count (object ∷ objects) =
    let moved = words_in-cons (moved_on count object) (map (moved_on count) objects) in
    omega (arith, moved, words_in-cons object objects, words_in-moved_on count objects)

-- the marked objects have no more words than all
pub words_in-marked : (marks : List Bool) (objects : List Object) → words_in (marked marks objects) ≤ words_in objects
words_in-marked [] others = omega arith
words_in-marked (true ∷ marks) [] = omega arith
words_in-marked (false ∷ marks) [] = omega arith
words_in-marked (true ∷ marks) (object ∷ objects) =
    let kept = words_in-cons object (marked marks objects) in
    omega (arith, kept, words_in-cons object objects, words_in-marked marks objects)
words_in-marked (false ∷ marks) (object ∷ objects) =
    omega (arith, words_in-cons object objects, words_in-marked marks objects)

-- the marked ones among the first objects have no more words than all marked ones
pub words_in-marked_take : (marks : List Bool) (objects : List Object) (index : ℕ)
    → words_in (marked (take index marks) (take index objects)) ≤ words_in (marked marks objects)
words_in-marked_take marks objects zero = omega arith
words_in-marked_take [] objects (suc index) = omega arith
words_in-marked_take (true ∷ marks) [] (suc index) = omega arith
words_in-marked_take (false ∷ marks) [] (suc index) = omega arith
words_in-marked_take (true ∷ marks) (object ∷ objects) (suc index) =
    let first = words_in-cons object (marked (take index marks) (take index objects)) in
    omega (arith, first, words_in-cons object (marked marks objects), words_in-marked_take marks objects index)
words_in-marked_take (false ∷ marks) (object ∷ objects) (suc index) = words_in-marked_take marks objects index

-- ---- the live objects below an index

module _ (memory : Memory) (marks : List Bool) where
  -- the live objects below an index
  abbrev live_below : ℕ → List Object
  live_below index = marked (take index marks) (take index (objects memory))

  -- there are no more live objects below an index than objects
  pub live_objects-le : (index : ℕ) → length (live_below index) ≤ index
  live_objects-le index =
      omega (arith, length-marked (take index marks) (take index (objects memory)), length-take index (objects memory))

  -- the words of one live object more
  pub live_words_more_yes : (index : ℕ) → index < object_count memory → get_or marks index false ≡ true
      → live_words_below memory marks (index + 1)
      ≡ live_words_below memory marks index + length (chunk_words memory index)
  live_words_more_yes index lt is =
      ap words_in (marked_more_yes marks (objects memory) index no_object lt is)
      ∙ sum_by_push size (live_below index) (object_at memory index)

  -- a dead object adds no words
  pub live_words_more_no : (index : ℕ) → index < object_count memory → get_or marks index false ≡ false
      → live_words_below memory marks (index + 1) ≡ live_words_below memory marks index
  live_words_more_no index lt is = ap words_in (marked_more_no marks (objects memory) index lt is)

  -- the live words below the end are all live words
  pub live_words_all : (index : ℕ) → length marks ≡ object_count memory → object_count memory ≤ index
      → live_words_below memory marks index ≡ live_words memory marks
  live_words_all index sized le = ap words_in (marked_all marks (objects memory) index (omega arith) le)

  -- there are as many live objects as marks that are set
  pub length-live : length marks ≡ object_count memory → length (live memory marks) ≡ count_by (λ mark. mark) marks
  length-live sized = length-marked_count marks (objects memory) sized

-- ---- the live words are among the data words

-- the objects have no more words than there are, where a chunk, perhaps free, stands before the others
words_in_if : (test : Bool) (chunk : List ℕ) (objects : List Object) (words : ℕ) → words_in objects ≤ words
    → words_in ((cond test (record { first = 0; chunk = chunk } ∷ []) []) ++ map (moved_on (length chunk)) objects)
    ≤ length chunk + words
words_in_if true chunk objects words le =
    let moved = map (moved_on (length chunk)) objects in
    omega (arith, words_in-cons (record { first = 0; chunk = chunk }) moved, words_in-moved_on (length chunk) objects)
words_in_if false chunk objects words le = omega (arith, words_in-moved_on (length chunk) objects)

-- the objects have no more words than there are
pub words_in-le-concat : (chunks : List (List ℕ)) → words_in (objects_of chunks) ≤ length (concat chunks)
words_in-le-concat [] = omega arith
words_in-le-concat (chunk ∷ chunks) =
    let words = length (concat chunks) in
    let le = words_in_if (is_object chunk) chunk (objects_of chunks) words (words_in-le-concat chunks) in
    omega (arith, le, length-append chunk (concat chunks))

module _ (memory : Memory) (marks : List Bool) where
  -- the live words below an index are among the data words
  pub live_words_below-le-words : (index : ℕ) → live_words_below memory marks index ≤ length (concat memory.chunks)
  live_words_below-le-words index =
      let marked = words_in-marked (take index marks) (take index (objects memory)) in
      omega (arith, marked, sum_by-take-le size (objects memory) index, words_in-le-concat memory.chunks)

  -- and so are all live words
  pub live_words-le-words : length marks ≡ object_count memory → live_words memory marks ≤ length (concat memory.chunks)
  live_words-le-words sized =
      let all = live_words_all memory marks (object_count memory) sized (omega arith) in
      omega (arith, all, live_words_below-le-words (object_count memory))
