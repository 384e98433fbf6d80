-- The live objects at their new addresses: each is an object of the compacted memory, and is found
-- at its address.
-- Serves `CopiedLemmas` and `WordLemmas`; `CorrespondenceLemmas` and `FixedPointLemmas` of
-- `sqz_tool`.
use Rattle.std.proofs.Common.{◌≡◌, ℕ, ◌+◌, ◌*◌, ◌%◌, ◌<◌, Bool, true, false, List, [], ◌∷◌, length, map, take, cond}
use Rattle.std.proofs.Common.{slice_index_or, Some, refl, ap, subst, ◌∙◌, arith}
use Rattle.std.specs.List.{concat, AllByRecursion}
use Rattle.std.proofs.ByRecursion.{All-append, All-map, All-take, All-weaker}
use Rattle.std.proofs.lemmas.List.{get_or-map, take-map, length-map}
use Rattle.sqz_object.specs.Chunk.{IsChunk, before, is_object}
use Rattle.sqz_image.specs.Objects.{Memory, Object, moved_on, objects_of, objects, object_count, object_at, chunk_words}
use Rattle.sqz_image.specs.Objects.{address_of, find}
use Rattle.sqz_image.proofs.ObjectLemmas.{objects_keep, All_at}
use Rattle.sqz_image.proofs.FoundLemmas.{find-address, objects_of-all, object-all}
use Rattle.sqz_trace.specs.declared.weak.Weak.{Weak}
use Rattle.sqz_trace.specs.Live.{marked, live, live_words_below}
use Rattle.sqz_trace.specs.Graph.{is_marked}
use Rattle.sqz_trace.proofs.CopyLemmas.{marked_inside}
use Rattle.sqz_regions.specs.Places.{place}
use Rattle.sqz_trace.proofs.MarkedLemmas.{marked-at, marked-inside, marked-before, marked-onto}
use Rattle.sqz_slide.specs.Moved.{moved, moved_objects}
use Rattle.sqz_slide.proofs.LengthLemmas.{All-marked, words_after, length-all}
use Rattle.sqz_slide.proofs.MovedShapeLemmas.{moved-before, moved-chunk, moved-object}

abbrev no_object : Object
no_object = record { first = 0; chunk = [] }

-- ---- what holds of all

-- both hold of each
pub All-both : {X : Type 0} (P Q : X → Type 0) (xs : List X)
    → AllByRecursion P xs → AllByRecursion Q xs → AllByRecursion (λ x. P x × Q x) xs
All-both P Q [] p q = tt
All-both P Q (x ∷ xs) p q = ((p.0, q.0), All-both P Q xs p.1 q.1)

-- each object is one
objects_are : (chunks : List (List ℕ)) → AllByRecursion (λ object. is_object object.chunk ≡ true) (objects_of chunks)
objects_are [] = tt
objects_are (chunk ∷ chunks) =
    All-append IsObject (own (is_object chunk)) _ (by_test (is_object chunk) refl)
    (All-map IsObject (moved_on (length chunk)) (objects_of chunks) (objects_are chunks))
  where
    IsObject : Object → Type 0
    IsObject object = is_object object.chunk ≡ true

    own : Bool → List Object
    own test = cond test (record { first = 0; chunk = chunk } ∷ []) []

    by_test : (test : Bool) → is_object chunk ≡ test → AllByRecursion IsObject (own test)
    by_test true e = (e, tt)
    by_test false e = tt

module _ (memory : Memory) (weak : Weak) (marks : List Bool) (aligned : memory.base % 4 ≡ 0)
    (chunks : AllByRecursion IsChunk memory.chunks) (sized : length marks ≡ object_count memory) where
  -- the live objects in their new places, with the special objects array at this address
  abbrev pub compacted_with : ℕ → Memory
  compacted_with special =
      record { order = memory.order; base = memory.base; special = special; chunks = moved_objects memory weak marks }

  -- the live objects below an index, and how many these are: the index of an object's copy
  abbrev live_below : ℕ → List Object
  live_below i = marked (take i marks) (take i (objects memory))

  abbrev pub new_index : ℕ → ℕ
  new_index i = length (live_below i)

  -- ---- the chunks of the copy

  abbrev IsWhole : Object → Type 0
  IsWhole object = IsChunk object.chunk × (is_object object.chunk ≡ true)

  all_whole : AllByRecursion IsWhole (objects memory)
  all_whole =
      All-both (λ object. IsChunk object.chunk) (λ object. is_object object.chunk ≡ true) (objects memory)
      (objects_keep IsChunk memory.chunks chunks) (objects_are memory.chunks)

  live_whole : AllByRecursion IsWhole (live memory marks)
  live_whole = All-marked IsWhole marks (objects memory) all_whole

  -- they are chunks
  pub copied_chunks : AllByRecursion IsChunk (moved_objects memory weak marks)
  copied_chunks =
      All-map IsChunk (words_after memory weak marks) (live memory marks)
      (All-weaker IsWhole (λ object. IsChunk (words_after memory weak marks object))
      (λ object is. moved-chunk memory weak marks aligned object.chunk is.0) (live memory marks) live_whole)

  -- and none is free
  pub copied_objects : AllByRecursion (λ chunk. is_object chunk ≡ true) (moved_objects memory weak marks)
  copied_objects =
      All-map (λ chunk. is_object chunk ≡ true) (words_after memory weak marks) (live memory marks)
      (All-weaker IsWhole (λ object. is_object (words_after memory weak marks object) ≡ true)
      (λ object is. moved-object memory weak marks aligned object.chunk is.0 ∙ is.1) (live memory marks) live_whole)

  -- there is one for each live object
  count-copied : (special : ℕ) → object_count (compacted_with special) ≡ length (live memory marks)
  count-copied special =
      objects_of-all (moved_objects memory weak marks) copied_objects ∙ length-map (live memory marks) (words_after memory weak marks)

  -- ---- one object

  module _ (i : ℕ) (m : is_marked marks i ≡ true) where
    pub inside_memory : i < object_count memory
    inside_memory = omega (arith, marked_inside marks i m, sized)

    pub chunk_is : IsChunk (chunk_words memory i)
    chunk_is =
        All_at (λ object. IsChunk object.chunk) (objects memory) i no_object inside_memory (objects_keep IsChunk memory.chunks chunks)

    inside_live : new_index i < length (live memory marks)
    inside_live = marked-inside marks (objects memory) i inside_memory m

    inside_chunks : new_index i < length (moved_objects memory weak marks)
    inside_chunks = rw (length-map (live memory marks) (words_after memory weak marks)) inside_live

    -- the words before its copy
    words_before : length (concat (take (new_index i) (moved_objects memory weak marks))) ≡ live_words_below memory marks i
    words_before =
        ap (λ chunks. length (concat chunks)) (take-map (words_after memory weak marks) (new_index i) (live memory marks)
        ∙ ap (map (words_after memory weak marks)) (marked-before marks (objects memory) i))
        ∙ length-all memory weak marks (live_below i)
        (subst (AllByRecursion (λ object. IsChunk object.chunk)) (marked-before marks (objects memory) i)
        (All-take (λ object. IsChunk object.chunk) (new_index i) (live memory marks)
        (All-weaker IsWhole (λ object. IsChunk object.chunk) (λ object is. is.0) (live memory marks) live_whole)))

    -- the words of its copy
    words_of_copy : slice_index_or (moved_objects memory weak marks) (new_index i) [] ≡ moved memory weak marks (chunk_words memory i)
    words_of_copy =
        get_or-map (words_after memory weak marks) (live memory marks) (new_index i) no_object [] inside_live
        ∙ ap (words_after memory weak marks) (marked-at marks (objects memory) i no_object inside_memory m)

    module _ (special : ℕ) where
      pub inside-copied : new_index i < object_count (compacted_with special)
      inside-copied = rw (count-copied special) inside_live

      -- the copy
      object-copied : object_at (compacted_with special) (new_index i)
          ≡ record { first = live_words_below memory marks i; chunk = moved memory weak marks (chunk_words memory i) }
      object-copied =
          object-all (moved_objects memory weak marks) copied_objects (new_index i) inside_chunks
          ∙ same_object words_before words_of_copy
        where
          same_object : {a b : ℕ} {x y : List ℕ} → a ≡ b → x ≡ y
              → let one : Object = record { first = a; chunk = x } in one ≡ record { first = b; chunk = y }
          same_object p q = cc

      pub words-copied : chunk_words (compacted_with special) (new_index i) ≡ moved memory weak marks (chunk_words memory i)
      words-copied = ap (λ (object : Object). object.chunk) object-copied

      -- its address is the object's place
      pub address-copied : address_of (compacted_with special) (new_index i) ≡ place memory marks i
      address-copied =
          ap (λ (object : Object). memory.base + 4 * (object.first + before object.chunk)) object-copied
          ∙ ap (λ (n : ℕ). memory.base + 4 * (live_words_below memory marks i + n))
          (moved-before memory weak marks aligned (chunk_words memory i) chunk_is)

      -- where it is found
      pub found-copied : find (compacted_with special) (place memory marks i) ≡ Some (new_index i)
      found-copied =
          subst (λ (a : ℕ). find (compacted_with special) a ≡ Some (new_index i)) address-copied
          (find-address (compacted_with special) copied_chunks (new_index i) inside-copied)

  -- each copy is that of an object
  pub onto-copied : (special j : ℕ) → j < object_count (compacted_with special) → (i : ℕ) × (is_marked marks i ≡ true) × (new_index i ≡ j)
  onto-copied special j lt =
      let found = marked-onto marks (objects memory) j (rw (← count-copied special) lt) in
      (found.index, found.set, found.same)
