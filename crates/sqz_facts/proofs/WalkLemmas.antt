-- A walk over the chunks of an object memory, in address order.
-- Serves `placed::chunk_with` and `sums::chunk_sums`.
use Rattle.std.proofs.Common.{◌≡◌, ℕ, ◌+◌, ◌<◌, ◌≤◌, Bool, true, false, List, [], ◌∷◌, ◌++◌, length, take, drop}
use Rattle.std.proofs.Common.{refl, sym, ap, subst, ◌∙◌, arith}
use Rattle.std.specs.List.{concat, AllByRecursion}
use Rattle.std.proofs.lemmas.List.{length-append, append_assoc, append-nil, take_at, drop_at}
use Rattle.std.proofs.lemmas.List.Folds.{concat-append}
use Rattle.sqz_object.specs.declared.chunk.Chunk.{Chunk}
use Rattle.sqz_object.specs.declared.chunk.Kind.{Kind}
use Rattle.sqz_object.specs.declared.chunk.Kind.TheVariants.{Three, Two, Free, Short}
use Rattle.sqz_object.specs.Chunk.{IsChunkOf, IsChunk, chunk_kind, is_object}
use Rattle.sqz_object.specs.Reading.{BeginsWith, description}
use Rattle.sqz_object.proofs.ChunkLemmas.{chunk_kind_is, length-chunk}
use Rattle.sqz_object.proofs.PartitionLemmas.{All-push, concat-push}
use Rattle.sqz_image.specs.Objects.{Memory, Object, objects_of}
use Rattle.sqz_image.proofs.HeapLemmas.{HasObject, chunk_there, begins_there}
use Rattle.sqz_image.proofs.IndexLemmas.{objects_of-push, objects_of-push_free}
use Rattle.sqz_image.proofs.ObjectLemmas.{before-chunk, length-objects_of}
use Rattle.sqz_facts.specs.Placed.{HasWord}

-- ---- which chunks are objects

-- whether a chunk of this kind is an object
abbrev is_used : Kind → Bool
is_used Three = true
is_used Two = true
is_used Free = false
is_used Short = true

is_object-kind : (kind : Kind) (chunk : List ℕ) → IsChunkOf kind chunk → is_object chunk ≡ is_used kind
is_object-kind Three (size ∷ class ∷ base ∷ fields) h = rw h.0 refl
is_object-kind Two (class ∷ base ∷ fields) h = rw h.0 refl
is_object-kind Free (free ∷ rest) h = rw h.0 refl
is_object-kind Short (base ∷ fields) h = rw h.0 refl
is_object-kind _ _ h = absurd h

-- by the kind that its first word tells
is_object-by_kind : (chunk : List ℕ) → IsChunk chunk → is_object chunk ≡ is_used (chunk_kind chunk)
is_object-by_kind chunk (kind, h) = is_object-kind kind chunk h ∙ ap is_used (sym (chunk_kind_is kind chunk h))

used_if_not_free : (kind : Kind) → (kind ≡ Free → ⊥) → is_used kind ≡ true
used_if_not_free Three other = refl
used_if_not_free Two other = refl
used_if_not_free Free other = absurd (other refl)
used_if_not_free Short other = refl

pub is_object-used : (chunk : List ℕ) → IsChunk chunk → (chunk_kind chunk ≡ Free → ⊥) → is_object chunk ≡ true
is_object-used chunk is used = is_object-by_kind chunk is ∙ used_if_not_free (chunk_kind chunk) used

-- ---- how far a walk has come

-- the chunks before a word, and how many objects they are
pub record IsWalked (chunks : List (List ℕ)) (place object : ℕ) (done : List (List ℕ)) : Type 0 where
  pub rest : List (List ℕ)
  pub whole : done ++ rest ≡ chunks
  pub each : AllByRecursion IsChunk done
  pub others : AllByRecursion IsChunk rest
  pub place_is : place ≡ length (concat done)
  pub object_is : object ≡ length (objects_of done)

-- at a word at which a chunk begins
pub record IsAtChunk (chunks : List (List ℕ)) (place object : ℕ) (done : List (List ℕ)) : Type 0 where
  pub chunk : List ℕ
  pub rest : List (List ℕ)
  pub parts : chunks ≡ done ++ chunk ∷ rest
  pub each : AllByRecursion IsChunk done
  pub is_chunk : IsChunk chunk
  pub others : AllByRecursion IsChunk rest
  pub place_is : place ≡ length (concat done)
  pub object_is : object ≡ length (objects_of done)

pub IsWalked-none : (chunks : List (List ℕ)) → AllByRecursion IsChunk chunks → IsWalked chunks 0 0 []
IsWalked-none chunks all =
    record { rest = chunks; whole = refl; each = tt; others = all; place_is = refl; object_is = refl }

-- there are no more objects than words
pub objects-le : {chunks : List (List ℕ)} {place object : ℕ} {done : List (List ℕ)} → IsWalked chunks place object done
    → object ≤ place
objects-le {done = done} walked = omega (arith, walked.place_is, walked.object_is, length-objects_of done walked.each)

-- a chunk begins where there are words left
at_chunk_of : (chunks : List (List ℕ)) (place object : ℕ) (done rest : List (List ℕ)) → done ++ rest ≡ chunks
    → AllByRecursion IsChunk done → AllByRecursion IsChunk rest → place ≡ length (concat done)
    → object ≡ length (objects_of done) → place < length (concat chunks) → IsAtChunk chunks place object done
at_chunk_of chunks place object done [] whole each others place_is object_is lt =
    let same : length (concat done) ≡ length (concat chunks) =
    ap (λ (cs : List (List ℕ)). length (concat cs)) (sym (append-nil done) ∙ whole) in
    absurd (omega (arith, same))
at_chunk_of chunks place object done (chunk ∷ rest) whole each others place_is object_is lt =
    record {
      chunk = chunk;
      rest = rest;
      parts = sym whole;
      each = each;
      is_chunk = others.0;
      others = others.1;
      place_is = place_is;
      object_is = object_is;
    }

pub at_chunk : {chunks : List (List ℕ)} {place object : ℕ} {done : List (List ℕ)} → IsWalked chunks place object done
    → place < length (concat chunks) → IsAtChunk chunks place object done
at_chunk {chunks = chunks} {place = place} {object = object} {done = done} walked lt =
    at_chunk_of chunks place object done walked.rest walked.whole walked.each walked.others walked.place_is walked.object_is lt

-- where there are none, the walk has come to the end
at_end_of : (chunks : List (List ℕ)) (place : ℕ) (done rest : List (List ℕ)) → done ++ rest ≡ chunks
    → AllByRecursion IsChunk rest → place ≡ length (concat done) → length (concat chunks) ≤ place → done ≡ chunks
at_end_of chunks place done [] whole others place_is le = sym (append-nil done) ∙ whole
at_end_of chunks place done (chunk ∷ rest) whole others place_is le =
    let same : length (concat (done ++ chunk ∷ rest)) ≡ length (concat chunks) =
    ap (λ (cs : List (List ℕ)). length (concat cs)) whole in
    absurd
    (omega (
      arith,
      same,
      ap length (concat-append done (chunk ∷ rest)),
      length-append (concat done) (chunk ++ concat rest),
      length-append chunk (concat rest),
      length-chunk chunk others.0,
    ))

pub at_end : {chunks : List (List ℕ)} {place object : ℕ} {done : List (List ℕ)} → IsWalked chunks place object done
    → length (concat chunks) ≤ place → done ≡ chunks
at_end {chunks = chunks} {place = place} {done = done} walked le =
    at_end_of chunks place done walked.rest walked.whole walked.others walked.place_is le

-- ---- at a chunk

module _ {chunks : List (List ℕ)} {place object : ℕ} {done : List (List ℕ)} (here : IsAtChunk chunks place object done) where
  words_are : concat chunks ≡ concat done ++ (here.chunk ++ concat here.rest)
  words_are = ap concat here.parts ∙ concat-append done (here.chunk ∷ here.rest)

  behind : drop place (concat chunks) ≡ here.chunk ++ concat here.rest
  behind = ap (drop place) words_are ∙ drop_at (concat done) (here.chunk ++ concat here.rest) place (sym here.place_is)

  -- the chunk is inside the words
  pub chunk_inside : place + length here.chunk ≤ length (concat chunks)
  chunk_inside =
      omega (
        arith,
        here.place_is,
        ap length words_are,
        length-append (concat done) (here.chunk ++ concat here.rest),
        length-append here.chunk (concat here.rest),
      )

  stands : HasObject (concat chunks) (record { first = place; chunk = here.chunk })
  stands =
      record {
        stands = record {
          inside = chunk_inside;
          there = ap (take (length here.chunk)) behind ∙ take_at here.chunk (concat here.rest) (length here.chunk) refl;
        };
        is_chunk = here.is_chunk;
        header = before-chunk here.chunk here.is_chunk;
      }

  -- the words begin with it, and what is read of its header says so
  pub chunk_begins : BeginsWith (drop place (concat chunks)) (description here.chunk)
  chunk_begins = begins_there stands

  pub chunk_read : (header : Chunk) → BeginsWith (drop place (concat chunks)) header → header ≡ description here.chunk
  chunk_read header begins = chunk_there stands header begins

  -- whether it is an object, by the kind that was read
  pub chunk_free : (header : Chunk) → header ≡ description here.chunk → header.kind ≡ Free → is_object here.chunk ≡ false
  chunk_free header is free =
      is_object-by_kind here.chunk here.is_chunk ∙ ap is_used (sym (ap (λ (h : Chunk). h.kind) is) ∙ free)

  pub chunk_used : (header : Chunk) → header ≡ description here.chunk → (header.kind ≡ Free → ⊥) → is_object here.chunk ≡ true
  chunk_used header is used =
      is_object-used here.chunk here.is_chunk (λ free. used (ap (λ (h : Chunk). h.kind) is ∙ free))

  -- the chunks up to its end
  abbrev more : List (List ℕ)
  more = done ++ here.chunk ∷ []

  walked_more : (count : ℕ) → count ≡ length (objects_of more) → IsWalked chunks (place + length here.chunk) count more
  walked_more count is =
      record {
        rest = here.rest;
        whole = append_assoc done (here.chunk ∷ []) here.rest ∙ sym here.parts;
        each = All-push IsChunk done here.chunk here.each here.is_chunk;
        others = here.others;
        place_is =
            omega (arith, here.place_is, ap length (concat-push done here.chunk), length-append (concat done) here.chunk);
        object_is = is;
      }

  pub IsWalked-free : is_object here.chunk ≡ false → IsWalked chunks (place + length here.chunk) object more
  IsWalked-free free = walked_more object (here.object_is ∙ ap length (sym (objects_of-push_free done here.chunk free)))

  pub IsWalked-object : is_object here.chunk ≡ true → IsWalked chunks (place + length here.chunk) (object + 1) more
  IsWalked-object used =
      let last : Object = record { first = length (concat done); chunk = here.chunk } in
      walked_more (object + 1)
      (omega (arith, here.object_is, ap length (objects_of-push done here.chunk used), length-append (objects_of done) (last ∷ [])))

-- ---- a step of a walk that reads a header

module _ {chunks : List (List ℕ)} {place object : ℕ} {done : List (List ℕ)} (walked : IsWalked chunks place object done)
    (words : List ℕ) (words_are : words ≡ concat chunks) (left : place < length words) where
  abbrev pub here : IsAtChunk chunks place object done
  here = at_chunk walked (subst (λ (ws : List ℕ). place < length ws) words_are left)

  -- a chunk begins at the word
  pub header_begins : (chunk : Chunk) × BeginsWith (drop place words) chunk
  header_begins =
      (description here.chunk, subst (λ (ws : List ℕ). BeginsWith (drop place ws) (description here.chunk)) (sym words_are) (chunk_begins here))

  module _ (header : Chunk) (begins : BeginsWith (drop place words) header) where
    pub header_is : header ≡ description here.chunk
    header_is = chunk_read here header (subst (λ (ws : List ℕ). BeginsWith (drop place ws) header) words_are begins)

    pub header_length : header.length ≡ length here.chunk
    header_length = ap (λ (h : Chunk). h.length) header_is

    -- what was read leaves room
    pub header_inside : place + header.length ≤ length words
    header_inside = omega (arith, header_length, chunk_inside here, ap length words_are)

    end_is : place + length here.chunk ≡ place + header.length
    end_is = omega (arith, header_length)

    -- a free chunk more
    pub IsWalked-more_free : header.kind ≡ Free → IsWalked chunks (place + header.length) object (done ++ here.chunk ∷ [])
    IsWalked-more_free free =
        subst (λ (n : ℕ). IsWalked chunks n object (done ++ here.chunk ∷ [])) end_is
        (IsWalked-free here (chunk_free here header header_is free))

    -- an object more
    pub IsWalked-more_object : (header.kind ≡ Free → ⊥)
        → IsWalked chunks (place + header.length) (object + 1) (done ++ here.chunk ∷ [])
    IsWalked-more_object used =
        subst (λ (n : ℕ). IsWalked chunks n (object + 1) (done ++ here.chunk ∷ [])) end_is
        (IsWalked-object here (chunk_used here header header_is used))

-- ---- a search for the chunk that has a word

-- the walk has not reached the word yet
pub record IsSearching (chunks : List (List ℕ)) (place object word : ℕ) : Type 0 where
  pub done : List (List ℕ)
  pub walked : IsWalked chunks place object done
  pub passed : place ≤ word

module _ (memory : Memory) {place object word : ℕ} (so_far : IsSearching memory.chunks place object word)
    (words : List ℕ) (words_are : words ≡ concat memory.chunks) (left : place < length words)
    (header : Chunk) (begins : BeginsWith (drop place words) header) where
  abbrev at : IsAtChunk memory.chunks place object so_far.done
  at = here so_far.walked words words_are left

  -- the chunk that is read has the word
  pub HasWord-found : word < place + header.length → HasWord memory word (record { first = place; object = object; header = header })
  HasWord-found below =
      record {
        front = so_far.done;
        chunk = at.chunk;
        rest = at.rest;
        parts = at.parts;
        is_chunk = at.is_chunk;
        header = header_is so_far.walked words words_are left header begins;
        object = at.object_is;
        begins = at.place_is;
        from = so_far.passed;
        below = omega (arith, below, header_length so_far.walked words words_are left header begins);
        inside = chunk_inside at;
      }

  -- or the search goes on after it
  pub IsSearching-more_free : header.kind ≡ Free → place + header.length ≤ word
      → IsSearching memory.chunks (place + header.length) object word
  IsSearching-more_free free passed =
      record {
        done = so_far.done ++ at.chunk ∷ [];
        walked = IsWalked-more_free so_far.walked words words_are left header begins free;
        passed = passed;
      }

  pub IsSearching-more_object : (header.kind ≡ Free → ⊥) → place + header.length ≤ word
      → IsSearching memory.chunks (place + header.length) (object + 1) word
  IsSearching-more_object used passed =
      record {
        done = so_far.done ++ at.chunk ∷ [];
        walked = IsWalked-more_object so_far.walked words words_are left header begins used;
        passed = passed;
      }
