-- An index that grows chunk by chunk.
-- Serves `index::index_of`.
use Rattle.std.proofs.Common.{◌≡◌, ℕ, zero, suc, ◌+◌, ◌<◌, ◌≤◌, true, false, cond, List, [], ◌∷◌, ◌++◌, map, length, take, drop}
use Rattle.std.proofs.Common.{refl, sym, ap, subst, ◌∙◌, arith, zero-add, add-zero, add_assoc}
use Rattle.std.specs.List.{concat}
use Rattle.std.proofs.lemmas.List.{length-append, append_assoc, append-nil, map-append, take_all, length-drop}
use Rattle.std.proofs.lemmas.List.{length-take-le, length-map}
use Rattle.sqz_object.specs.declared.chunk.Chunk.{Chunk}
use Rattle.sqz_object.specs.declared.chunk.Kind.{Kind}
use Rattle.sqz_object.specs.declared.chunk.Kind.TheVariants.{Three, Two, Free, Short}
use Rattle.sqz_object.specs.declared.chunk.ChunkFault.{ChunkFault}
use Rattle.sqz_object.specs.Partition.{IsPartition}
use Rattle.sqz_object.specs.Reading.{BeginsWith, HasNoChunk}
use Rattle.sqz_object.specs.Chunk.{IsChunkOf, is_object, before, words_before}
use Rattle.sqz_object.proofs.ChunkLemmas.{chunk_kind_is}
use Rattle.sqz_object.proofs.PartitionLemmas.{IsPartition-push}
use Rattle.sqz_image.specs.Objects.{Object, objects_of, moved_on, header_index}
use Rattle.sqz_image.specs.declared.ranks.Block.{Block}
use Rattle.sqz_image.specs.declared.starts.Start.{Start}
use Rattle.sqz_image.specs.Starts.{first_of, IsFollowed, end_of}
use Rattle.sqz_image.specs.Index.{IsIndex}
use Rattle.sqz_image.specs.Ranks.{IsAbove, IsFilled}
use Rattle.sqz_image.specs.Refusals.{HasNoPartition, refusal_of}
use Rattle.sqz_image.proofs.ObjectLemmas.{before-chunk, length-objects_of}
use Rattle.sqz_image.proofs.RankLemmas.{IsAbove-push, IsFilled-empty}
use Rattle.sqz_image.proofs.StartLemmas.{AreStartsUpTo, AreStartsUpTo-none, AreStartsUpTo-free, AreStartsUpTo-object}
use Rattle.sqz_image.proofs.StartLemmas.{AreStarts-whole, length_by_firsts}

-- the indexes of the base headers of the objects among chunks
abbrev pub headers_in : List (List ℕ) → List ℕ
headers_in chunks = map header_index (objects_of chunks)

-- chunks reach up to a place, and these are the objects among them
pub record IsIndexedUpTo (words : List ℕ) (place : ℕ) (starts : List Start) (headers : List Block) : Type 0 where
  pub inside : place ≤ length words
  pub chunks : List (List ℕ)
  pub partition : IsPartition (take place words) chunks
  pub starts_are : AreStartsUpTo words place (objects_of chunks) starts
  pub base_headers : IsFilled (headers_in chunks) headers
  below : IsAbove (headers_in chunks) place

-- ---- one chunk more

moved_on-zero : (objects : List Object) → map (moved_on 0) objects ≡ objects
moved_on-zero [] = refl
moved_on-zero (object ∷ objects) =
    let same : moved_on 0 object ≡ object = rw (zero-add object.first) refl in
    rw (moved_on-zero objects) (ap (λ (o : Object). o ∷ objects) same)

moved_on-moved_on : (m n : ℕ) (objects : List Object)
    → map (moved_on m) (map (moved_on n) objects) ≡ map (moved_on (m + n)) objects
moved_on-moved_on m n [] = refl
moved_on-moved_on m n (object ∷ objects) =
    let same : moved_on m (moved_on n object) ≡ moved_on (m + n) object =
    ap (λ (k : ℕ). record { first = k; chunk = object.chunk }) (sym (add_assoc m n object.first)) in
    rw (moved_on-moved_on m n objects) (ap (λ (o : Object). o ∷ map (moved_on (m + n)) objects) same)

pub objects_of-append : (xs ys : List (List ℕ))
    → objects_of (xs ++ ys) ≡ objects_of xs ++ map (moved_on (length (concat xs))) (objects_of ys)
objects_of-append [] ys = sym (moved_on-zero (objects_of ys))
objects_of-append (x ∷ xs) ys =
    let own : List Object = cond (is_object x) (record { first = 0; chunk = x } ∷ []) [] in
    let on : List Object → List Object = map (moved_on (length x)) in
    let rest = objects_of xs in
    let later = objects_of ys in
    let moved = map (moved_on (length (concat xs))) later in
    let together : on moved ≡ map (moved_on (length (concat (x ∷ xs)))) later =
    moved_on-moved_on (length x) (length (concat xs)) later
    ∙ ap (λ (n : ℕ). map (moved_on n) later) (sym (length-append x (concat xs))) in
    ap (λ (os : List Object). own ++ on os) (objects_of-append xs ys)
    ∙ ap (λ (os : List Object). own ++ os) (map-append (moved_on (length x)) rest moved)
    ∙ sym (append_assoc own (on rest) (on moved))
    ∙ ap (λ (os : List Object). (own ++ on rest) ++ os) together

pub objects_of-push_free : (chunks : List (List ℕ)) (chunk : List ℕ)
    → is_object chunk ≡ false → objects_of (chunks ++ chunk ∷ []) ≡ objects_of chunks
objects_of-push_free chunks chunk free =
    objects_of-append chunks (chunk ∷ []) ∙ rw free (append-nil (objects_of chunks))

pub objects_of-push : (chunks : List (List ℕ)) (chunk : List ℕ)
    → is_object chunk ≡ true
    → objects_of (chunks ++ chunk ∷ []) ≡ objects_of chunks ++ record { first = length (concat chunks); chunk = chunk } ∷ []
objects_of-push chunks chunk used =
    objects_of-append chunks (chunk ∷ []) ∙ rw (used, add-zero) refl

no_empty_chunk : (kind : Kind) → IsChunkOf kind [] → ⊥
no_empty_chunk Three h = h
no_empty_chunk Two h = h
no_empty_chunk Free h = h
no_empty_chunk Short h = h

-- the kind of a chunk says whether it is an object
free_is_no_object : (kind : Kind) (chunk : List ℕ) → IsChunkOf kind chunk → kind ≡ Free → is_object chunk ≡ false
free_is_no_object Free (free ∷ rest) h e = rw h.0 refl
free_is_no_object Free [] h e = absurd h
free_is_no_object Three chunk h e = absurd cc
free_is_no_object Two chunk h e = absurd cc
free_is_no_object Short chunk h e = absurd cc

-- a chunk has a first word
chunk_is_some : (kind : Kind) (chunk : List ℕ) → IsChunkOf kind chunk → 0 < length chunk
chunk_is_some kind [] h = absurd (no_empty_chunk kind h)
chunk_is_some kind (word ∷ rest) h = omega arith

-- words begin with no object if a non-empty prefix of them does not
is_object-take : (count : ℕ) (words : List ℕ) → is_object (take count words) ≡ false → 0 < length (take count words)
    → is_object words ≡ false
is_object-take zero words free some = absurd (omega (arith, some))
is_object-take (suc count) [] free some = refl
is_object-take (suc count) (word ∷ words) free some = free

other_is_object : (kind : Kind) (chunk : List ℕ) → IsChunkOf kind chunk → (kind ≡ Free → ⊥) → is_object chunk ≡ true
other_is_object Three (size ∷ class ∷ base ∷ fields) h used = rw h.0 refl
other_is_object Two (class ∷ base ∷ fields) h used = rw h.0 refl
other_is_object Short (base ∷ fields) h used = rw h.0 refl
other_is_object Free chunk h used = absurd (used refl)
other_is_object _ _ h used = absurd h

module _ {words : List ℕ} {place : ℕ} {starts : List Start} {headers : List Block}
    (so_far : IsIndexedUpTo words place starts headers) where
  -- there is a start for each object, and no more objects than words
  pub as_many : length (headers_in so_far.chunks) ≡ length starts
  as_many =
      length-map (objects_of so_far.chunks) header_index
      ∙ sym (length_by_firsts (objects_of so_far.chunks) starts so_far.starts_are.firsts)

  pub few_starts : length starts ≤ place
  few_starts =
      omega (
        arith,
        as_many,
        length-map (objects_of so_far.chunks) header_index,
        length-objects_of so_far.chunks so_far.partition.each,
        ap length so_far.partition.whole,
        length-take-le place words so_far.inside,
      )

  -- a header from the place on is behind all others
  pub is_above : (header : ℕ) → place ≤ header → IsAbove (headers_in so_far.chunks) header
  is_above header le i lt = omega (arith, le, so_far.below i lt)

  -- no chunk begins at the place
  pub HasNoPartition-at : (reason : ChunkFault)
      → place < length words → HasNoChunk (drop place words) reason → HasNoPartition words (refusal_of reason place)
  HasNoPartition-at reason inside missing =
      record {
        word = place;
        reason = reason;
        stuck = record {
          inside = inside;
          before_it = (so_far.chunks, so_far.partition);
          none = missing.none;
          reason = missing.reason;
        };
        refused = refl;
      }

  module _ (chunk : Chunk) (begins : BeginsWith (drop place words) chunk) where
    abbrev here : List ℕ
    here = take chunk.length (drop place words)

    inside_more : place + chunk.length ≤ length words
    inside_more = let le = begins.inside in omega (arith, so_far.inside, length-drop place words)

    partition_more : IsPartition (take (place + chunk.length) words) (so_far.chunks ++ here ∷ [])
    partition_more =
        IsPartition-push words place chunk.length so_far.chunks so_far.partition (chunk.kind, begins.is_chunk)

    no_object_here : chunk.kind ≡ Free → is_object (drop place words) ≡ false
    no_object_here free =
        is_object-take chunk.length (drop place words)
        (free_is_no_object chunk.kind here begins.is_chunk free) (chunk_is_some chunk.kind here begins.is_chunk)

    -- a free chunk more
    pub step_free : chunk.kind ≡ Free → IsIndexedUpTo words (place + chunk.length) starts headers
    step_free free =
        let same = objects_of-push_free so_far.chunks here (free_is_no_object chunk.kind here begins.is_chunk free) in
        record {
          inside = inside_more;
          chunks = so_far.chunks ++ here ∷ [];
          partition = partition_more;
          starts_are =
              subst (λ (os : List Object). AreStartsUpTo words (place + chunk.length) os starts) (sym same)
              (AreStartsUpTo-free so_far.starts_are (place + chunk.length) (no_object_here free));
          base_headers =
              subst (λ (os : List Object). IsFilled (map header_index os) headers) (sym same) so_far.base_headers;
          below =
              subst (λ (os : List Object). IsAbove (map header_index os) (place + chunk.length)) (sym same)
              (is_above (place + chunk.length) (omega arith));
        }

    -- an object more, with its header in the table
    pub step_object : {more : List Block} → (chunk.kind ≡ Free → ⊥)
        → IsFilled (headers_in so_far.chunks ++ (place + chunk.before) ∷ []) more
        → (start : Start) → first_of start ≡ place
        → (IsFollowed start → is_object (drop (place + chunk.length) words) ≡ true)
        → IsIndexedUpTo words (place + chunk.length) (starts ++ start ∷ []) more
    step_object {more = more} used filled start starts_here awaits =
        let before_it = objects_of so_far.chunks in
        let same = objects_of-push so_far.chunks here (other_is_object chunk.kind here begins.is_chunk used) in
        let before_header : chunk.before ≡ before here =
        begins.before ∙ ap words_before (sym (chunk_kind_is chunk.kind here begins.is_chunk)) in
        let at : length (concat so_far.chunks) ≡ place =
        ap length so_far.partition.whole ∙ length-take-le place words so_far.inside in
        let object : Object = record { first = length (concat so_far.chunks); chunk = here } in
        let header : header_index object ≡ place + chunk.before = omega (arith, before_header, at) in
        let end_is : end_of object ≡ place + chunk.length =
        omega (arith, at, length-take-le chunk.length (drop place words) begins.inside) in
        let headers_more : headers_in so_far.chunks ++ (place + chunk.before) ∷ []
        ≡ headers_in (so_far.chunks ++ here ∷ []) =
        ap (λ (n : ℕ). headers_in so_far.chunks ++ n ∷ []) (sym header)
        ∙ sym (map-append header_index before_it (object ∷ []))
        ∙ ap (λ (os : List Object). map header_index os) (sym same) in
        let inside_chunk : place + chunk.before < place + chunk.length =
        omega (
          arith,
          before_header,
          before-chunk here (chunk.kind, begins.is_chunk),
          length-take-le chunk.length (drop place words) begins.inside,
        ) in
        record {
          inside = inside_more;
          chunks = so_far.chunks ++ here ∷ [];
          partition = partition_more;
          starts_are =
              subst (λ (os : List Object). AreStartsUpTo words (place + chunk.length) os (starts ++ start ∷ [])) (sym same)
              (rw end_is at
              (AreStartsUpTo-object so_far.starts_are object start at starts_here
              (λ followed. rw end_is (awaits followed))));
          base_headers = subst (λ (xs : List ℕ). IsFilled xs more) headers_more filled;
          below =
              subst (λ (xs : List ℕ). IsAbove xs (place + chunk.length)) headers_more
              (IsAbove-push (headers_in so_far.chunks) (place + chunk.before) (place + chunk.length)
              (is_above (place + chunk.length) (omega arith)) inside_chunk);
        }

  -- the chunks reach up to the end
  pub whole_index : length words ≤ place → IsIndex words starts headers
  whole_index le =
      record {
        chunks = so_far.chunks;
        partition = subst (λ (w : List ℕ). IsPartition w so_far.chunks) (take_all place words le) so_far.partition;
        starts_are = AreStarts-whole so_far.starts_are le;
        base_headers = so_far.base_headers.ranked;
      }

-- ---- where it starts

pub start : (words : List ℕ) → IsIndexedUpTo words 0 [] []
start words =
    record {
      inside = omega arith;
      chunks = [];
      partition = record { each = tt; whole = refl };
      starts_are = AreStartsUpTo-none words;
      base_headers = IsFilled-empty;
      below = λ i lt. absurd (omega (arith, lt));
    }
