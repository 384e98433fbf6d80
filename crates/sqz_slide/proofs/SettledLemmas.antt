-- A memory that has only objects, all of them marked, is its own compaction: each object is at its
-- new address already, and no word changes.
-- Serves `FixedPointLemmas` of `sqz_tool`.
use Rattle.std.proofs.Common.{◌≡◌, ℕ, zero, suc, ◌+◌, ◌*◌, ◌/◌, ◌%◌, ◌<◌, Bool, true, false, cond, eqb, List, [], ◌∷◌, ◌++◌}
use Rattle.std.proofs.Common.{map, length, take, drop, Option, Some, None, refl, sym, ap, ◌∙◌, arith}
use Rattle.std.specs.Prelude.{replicate, unwrap_or}
use Rattle.std.specs.List.{concat, AllByRecursion}
use Rattle.std.proofs.lemmas.List.{length-append, take-map, take-append-drop, get_or-replicate}
use Rattle.sqz_object.specs.declared.value.Value.TheVariants.{Int, Pointer, Odd}
use Rattle.sqz_object.specs.declared.chunk.Kind.{Kind}
use Rattle.sqz_object.specs.declared.chunk.Kind.TheVariants.{Three, Two, Free, Short}
use Rattle.sqz_object.specs.Value.{signed_31}
use Rattle.sqz_object.specs.Chunk.{IsChunk, IsChunkOf, chunk_kind, is_object, words_before, fields, before}
use Rattle.sqz_object.proofs.ChunkLemmas.{chunk_kind_is}
use Rattle.sqz_image.specs.Objects.{Memory, Object, moved_on, objects_of, objects, object_count, object_at, chunk_words, words_in}
use Rattle.sqz_image.specs.Objects.{address_of, find}
use Rattle.sqz_image.proofs.FoundLemmas.{address-find, objects_of-all, object-all}
use Rattle.sqz_trace.specs.declared.weak.Weak.{Weak}
use Rattle.sqz_trace.specs.Graph.{is_marked}
use Rattle.sqz_trace.specs.Slots.{class_address}
use Rattle.sqz_trace.specs.Targets.{object_named, named_by}
use Rattle.sqz_trace.specs.Strong.{is_weak, strong}
use Rattle.sqz_trace.specs.Live.{marked, live, live_words_below, live_words}
use Rattle.sqz_trace.proofs.CopyLemmas.{all_marked}
use Rattle.sqz_regions.specs.Places.{place}
use Rattle.sqz_trace.proofs.LiveWordLemmas.{words_in-cons, words_in-moved_on}
use Rattle.sqz_slide.specs.Moved.{new_address, moved_field, nil_place, address_or, moved_weak, moved_class, moved_header}
use Rattle.sqz_slide.specs.Moved.{moved_others, moved_fields, moved, moved_objects}

-- ---- lists

-- all of a list's items are marked
marked-replicate : {X : Type 0} (xs : List X) → marked (replicate (length xs) true) xs ≡ xs
marked-replicate [] = refl
marked-replicate {X = X} (x ∷ xs) = ap (λ (ys : List X). x ∷ ys) (marked-replicate xs)

-- and so are all of the first ones
marked-take_replicate : {X : Type 0} (count : ℕ) (xs : List X)
    → marked (take count (replicate (length xs) true)) (take count xs) ≡ take count xs
marked-take_replicate zero xs = refl
marked-take_replicate (suc count) [] = refl
marked-take_replicate {X = X} (suc count) (x ∷ xs) = ap (λ (ys : List X). x ∷ ys) (marked-take_replicate count xs)

-- where no number changes, a list of numbers does not change
map-unchanged : (f : ℕ → ℕ) → ((x : ℕ) → f x ≡ x) → (xs : List ℕ) → map f xs ≡ xs
map-unchanged f same [] = refl
map-unchanged f same (x ∷ xs) =
    ap (λ (y : ℕ). y ∷ map f xs) (same x) ∙ ap (λ (ys : List ℕ). x ∷ ys) (map-unchanged f same xs)

-- ---- only objects

-- each chunk is an object
abbrev AreObjects : List (List ℕ) → Type 0
AreObjects chunks = AllByRecursion (λ chunk. is_object chunk ≡ true) chunks

-- the first objects have the words of the first chunks
words_in-take_all : (chunks : List (List ℕ)) → AreObjects chunks → (count : ℕ)
    → words_in (take count (objects_of chunks)) ≡ length (concat (take count chunks))
words_in-take_all [] all zero = refl
words_in-take_all [] all (suc count) = refl
words_in-take_all (chunk ∷ chunks) all zero = refl
words_in-take_all (chunk ∷ chunks) all (suc count) =
    let behind = take count (map (moved_on (length chunk)) (objects_of chunks)) in
    let moved = ap words_in (take-map (moved_on (length chunk)) count (objects_of chunks)) in
    let same = words_in-moved_on (length chunk) (take count (objects_of chunks)) in
    let whole = length-append chunk (concat (take count chunks)) in
    rw all.0
    (omega (
      arith,
      words_in-cons (record { first = 0; chunk = chunk }) behind,
      moved,
      same,
      words_in-take_all chunks all.1 count,
      whole,
    ))

-- all objects have the words of all chunks
words_in-all : (chunks : List (List ℕ)) → AreObjects chunks → words_in (objects_of chunks) ≡ length (concat chunks)
words_in-all [] all = refl
words_in-all (chunk ∷ chunks) all =
    let behind = map (moved_on (length chunk)) (objects_of chunks) in
    let same = words_in-moved_on (length chunk) (objects_of chunks) in
    let whole = length-append chunk (concat chunks) in
    rw all.0
    (omega (arith, words_in-cons (record { first = 0; chunk = chunk }) behind, same, words_in-all chunks all.1, whole))

-- what is done to the words of objects is done to these as well where they stand behind others
map-moved_on : (f : List ℕ → List ℕ) (count : ℕ) (objects : List Object)
    → map (λ object. f object.chunk) (map (moved_on count) objects) ≡ map (λ object. f object.chunk) objects
map-moved_on f count [] = refl
map-moved_on f count (object ∷ objects) =
    ap (λ (chunks : List (List ℕ)). f object.chunk ∷ chunks) (map-moved_on f count objects)

-- where no chunk changes, the objects' words are the chunks
map-objects : (f : List ℕ → List ℕ) → ((chunk : List ℕ) → IsChunk chunk → f chunk ≡ chunk) → (chunks : List (List ℕ))
    → AllByRecursion IsChunk chunks → AreObjects chunks → map (λ object. f object.chunk) (objects_of chunks) ≡ chunks
map-objects f same [] each all = refl
map-objects f same (chunk ∷ chunks) each all =
    rw all.0
    (ap (λ (words : List ℕ). words ∷ map (λ object. f object.chunk) (map (moved_on (length chunk)) (objects_of chunks)))
    (same chunk each.0)
    ∙ ap (λ (rest : List (List ℕ)). chunk ∷ rest)
    (map-moved_on f (length chunk) (objects_of chunks) ∙ map-objects f same chunks each.1 all.1))

-- ---- what a word names

-- a word that names an object is its address
find-named_by : (memory : Memory) (word index : ℕ) → named_by memory word ≡ Some index → find memory word ≡ Some index
find-named_by memory word index names = by_tests (eqb (word % 2) 1) (eqb (word % 4) 0) names
  where
    by_tests : (odd aligned : Bool)
        → object_named memory (cond odd (Int (signed_31 (word / 2))) (cond aligned (Pointer word) (Odd word))) ≡ Some index
        → find memory word ≡ Some index
    by_tests true aligned e = absurd cc
    by_tests false true e = e
    by_tests false false e = absurd cc

module _ (memory : Memory) (weak : Weak) (chunks : AllByRecursion IsChunk memory.chunks)
    (alone : AllByRecursion (λ chunk. is_object chunk ≡ true) memory.chunks) where
  -- ---- places

  -- all objects are live
  pub live-settled : live memory (all_marked memory) ≡ objects memory
  live-settled = marked-replicate (objects memory)

  -- and with them all words
  pub live_words-settled : live_words memory (all_marked memory) ≡ length (concat memory.chunks)
  live_words-settled = ap words_in live-settled ∙ words_in-all memory.chunks alone

  -- the live words below an object are those before it
  live_words_below-settled : (index : ℕ) → index < object_count memory
      → live_words_below memory (all_marked memory) index ≡ (object_at memory index).first
  live_words_below-settled index lt =
      ap words_in (marked-take_replicate index (objects memory))
      ∙ words_in-take_all memory.chunks alone index
      ∙ ap (λ (object : Object). object.first)
      (sym (object-all memory.chunks alone index (omega (arith, objects_of-all memory.chunks alone))))

  -- each object has its place already
  pub place-settled : (index : ℕ) → index < object_count memory → place memory (all_marked memory) index ≡ address_of memory index
  place-settled index lt =
      ap (λ (words : ℕ). memory.base + 4 * (words + before (chunk_words memory index))) (live_words_below-settled index lt)

  -- ---- words

  -- an object is marked
  is_marked-settled : (index : ℕ) → index < object_count memory → is_marked (all_marked memory) index ≡ true
  is_marked-settled index lt = get_or-replicate (object_count memory) index true false lt

  -- a word that names an object is the object's place, and the object is marked
  place-named : (word index other : ℕ) → named_by memory word ≡ Some index
      → cond (is_marked (all_marked memory) index) (place memory (all_marked memory) index) other ≡ word
  place-named word index other names =
      let found = address-find memory word index (find-named_by memory word index names) in
      ap (λ (test : Bool). cond test (place memory (all_marked memory) index) other) (is_marked-settled index found.0)
      ∙ place-settled index found.0
      ∙ found.1

  -- no strong field changes
  moved_field-settled : (word : ℕ) → moved_field memory (all_marked memory) word ≡ word
  moved_field-settled word = by_named (named_by memory word) refl
    where
      by_named : (named : Option ℕ) → named_by memory word ≡ named → new_address memory (all_marked memory) word named ≡ word
      by_named None e = refl
      by_named (Some index) e = place-named word index word e

  -- no weak field changes
  moved_weak-settled : (word : ℕ) → moved_weak memory weak (all_marked memory) word ≡ word
  moved_weak-settled word = by_named (named_by memory word) refl
    where
      by_named : (named : Option ℕ) → named_by memory word ≡ named
          → address_or memory (all_marked memory) (nil_place memory weak (all_marked memory)) word named ≡ word
      by_named None e = refl
      by_named (Some index) e = place-named word index (unwrap_or (nil_place memory weak (all_marked memory)) word) e

  -- no class word changes
  moved_class-settled : (word : ℕ) → moved_class memory (all_marked memory) word ≡ word
  moved_class-settled word = omega (arith, moved_field-settled (class_address word))

  -- ---- objects

  -- a header and the words behind it are the chunk still
  moved_header-settled : (kind : Kind) (chunk : List ℕ) → IsChunkOf kind chunk
      → moved_header memory (all_marked memory) kind chunk ++ drop (words_before kind + 1) chunk ≡ chunk
  moved_header-settled Three (size ∷ class ∷ base ∷ rest) h =
      ap (λ (word : ℕ). size ∷ word ∷ base ∷ rest) (moved_class-settled class)
  moved_header-settled Two (class ∷ base ∷ rest) h = ap (λ (word : ℕ). word ∷ base ∷ rest) (moved_class-settled class)
  moved_header-settled Free (free ∷ rest) h = refl
  moved_header-settled Short (base ∷ rest) h = refl
  moved_header-settled _ _ h = absurd h

  -- no field after the strong ones changes
  moved_others-settled : (test : Bool) (others : List ℕ) → moved_others memory weak (all_marked memory) test others ≡ others
  moved_others-settled true others = map-unchanged (moved_weak memory weak (all_marked memory)) moved_weak-settled others
  moved_others-settled false others = refl

  -- no field changes
  moved_fields-settled : (chunk : List ℕ) → moved_fields memory weak (all_marked memory) chunk ≡ fields chunk
  moved_fields-settled chunk =
      let count = strong memory weak chunk in
      let others : List ℕ = drop count (fields chunk) in
      let test = is_weak weak chunk in
      ap (λ (front : List ℕ). front ++ moved_others memory weak (all_marked memory) test others)
      (map-unchanged (moved_field memory (all_marked memory)) moved_field-settled (take count (fields chunk)))
      ∙ ap (λ (back : List ℕ). take count (fields chunk) ++ back) (moved_others-settled test others)
      ∙ take-append-drop count (fields chunk)

  -- no word changes
  pub moved-settled : (chunk : List ℕ) → IsChunk chunk → moved memory weak (all_marked memory) chunk ≡ chunk
  moved-settled chunk (kind, h) =
      ap (λ (words : List ℕ). moved_header memory (all_marked memory) (chunk_kind chunk) chunk ++ words)
      (moved_fields-settled chunk)
      ∙ ap (λ (kind : Kind). moved_header memory (all_marked memory) kind chunk ++ drop (words_before kind + 1) chunk)
      (chunk_kind_is kind chunk h)
      ∙ moved_header-settled kind chunk h

  -- and the live objects after the move are the chunks
  pub moved_objects-settled : moved_objects memory weak (all_marked memory) ≡ memory.chunks
  moved_objects-settled =
      ap (λ (live : List Object). map (λ object. moved memory weak (all_marked memory) object.chunk) live) live-settled
      ∙ map-objects (moved memory weak (all_marked memory)) moved-settled memory.chunks chunks alone
