-- Sums over the chunks of an object memory.
-- Serves `sums::chunk_sums` and `files::file_facts`.
use Rattle.std.proofs.Common.{◌≡◌, ℕ, ◌+◌, ◌<◌, ◌≤◌, Bool, true, false, not, List, [], ◌∷◌, ◌++◌, length, map, drop}
use Rattle.std.proofs.Common.{refl, sym, ap, ◌∙◌, arith, inl, inr}
use Rattle.std.specs.List.{concat, AllByRecursion}
use Rattle.std.proofs.lemmas.Bool.{cases_Bool}
use Rattle.std.proofs.lemmas.List.{length-append, append-nil}
use Rattle.std.proofs.lemmas.List.Elements.{filter-append}
use Rattle.std.proofs.lemmas.List.Sums.{sum_by-cons, sum_by-append}
use Rattle.sqz_object.specs.declared.chunk.Chunk.{Chunk}
use Rattle.sqz_object.specs.declared.chunk.Kind.TheVariants.{Free}
use Rattle.sqz_object.specs.Chunk.{IsChunk, is_object}
use Rattle.sqz_object.specs.Reading.{BeginsWith, description}
use Rattle.sqz_object.proofs.ChunkLemmas.{length-chunk}
use Rattle.sqz_object.proofs.PartitionLemmas.{concat-push}
use Rattle.sqz_image.specs.Objects.{Object, objects_of, moved_on, words_in}
use Rattle.sqz_image.proofs.IndexLemmas.{objects_of-push, objects_of-push_free}
use Rattle.sqz_trace.specs.Graph.{is_marked}
use Rattle.sqz_trace.specs.Live.{marked}
use Rattle.sqz_trace.proofs.LiveWordLemmas.{size, words_in-moved_on}
use Rattle.sqz_facts.specs.declared.sums.ChunkSums.{ChunkSums}
use Rattle.sqz_trace.specs.Dead.{unmarked}
use Rattle.sqz_facts.specs.FreeChunks.{free_among}
use Rattle.sqz_facts.specs.Sums.{sums_of}
use Rattle.sqz_facts.proofs.WalkLemmas.{IsWalked, IsAtChunk, IsWalked-none, at_end, here, header_is, header_length}
use Rattle.sqz_facts.proofs.WalkLemmas.{IsWalked-more_free, IsWalked-more_object, chunk_free, chunk_used}

-- ---- marked elements, and the others

module _ {X : Type 0} where
  marked-nil : (marks : List Bool) → ◌≡◌ {A = List X} (marked marks []) []
  marked-nil [] = refl
  marked-nil (true ∷ marks) = refl
  marked-nil (false ∷ marks) = refl

  unmarked-nil : (marks : List Bool) → ◌≡◌ {A = List X} (unmarked marks []) []
  unmarked-nil [] = refl
  unmarked-nil (mark ∷ marks) = refl

  -- a marked element more is the last marked one
  marked-push : (marks : List Bool) (xs : List X) (x : X) → is_marked marks (length xs) ≡ true
      → marked marks (xs ++ x ∷ []) ≡ marked marks xs ++ x ∷ []
  marked-push [] xs x is = absurd cc
  marked-push (true ∷ marks) [] x is = ap (λ ys. x ∷ ys) (marked-nil marks)
  marked-push (false ∷ marks) [] x is = absurd cc
  marked-push (true ∷ marks) (y ∷ xs) x is = ap (λ ys. y ∷ ys) (marked-push marks xs x is)
  marked-push (false ∷ marks) (y ∷ xs) x is = marked-push marks xs x is

  unmarked-push_marked : (marks : List Bool) (xs : List X) (x : X) → is_marked marks (length xs) ≡ true
      → unmarked marks (xs ++ x ∷ []) ≡ unmarked marks xs
  unmarked-push_marked [] xs x is = absurd cc
  unmarked-push_marked (true ∷ marks) [] x is = unmarked-nil marks
  unmarked-push_marked (false ∷ marks) [] x is = absurd cc
  unmarked-push_marked (true ∷ marks) (y ∷ xs) x is = unmarked-push_marked marks xs x is
  unmarked-push_marked (false ∷ marks) (y ∷ xs) x is = ap (λ ys. y ∷ ys) (unmarked-push_marked marks xs x is)

  -- another one is the last of the others
  marked-push_unmarked : (marks : List Bool) (xs : List X) (x : X) → is_marked marks (length xs) ≡ false
      → marked marks (xs ++ x ∷ []) ≡ marked marks xs
  marked-push_unmarked [] xs x is = refl
  marked-push_unmarked (true ∷ marks) [] x is = absurd cc
  marked-push_unmarked (false ∷ marks) [] x is = marked-nil marks
  marked-push_unmarked (true ∷ marks) (y ∷ xs) x is = ap (λ ys. y ∷ ys) (marked-push_unmarked marks xs x is)
  marked-push_unmarked (false ∷ marks) (y ∷ xs) x is = marked-push_unmarked marks xs x is

  unmarked-push : (marks : List Bool) (xs : List X) (x : X) → is_marked marks (length xs) ≡ false
      → unmarked marks (xs ++ x ∷ []) ≡ unmarked marks xs ++ x ∷ []
  unmarked-push [] xs x is = refl
  unmarked-push (true ∷ marks) [] x is = absurd cc
  unmarked-push (false ∷ marks) [] x is = ap (λ ys. x ∷ ys) (unmarked-nil marks)
  unmarked-push (true ∷ marks) (y ∷ xs) x is = unmarked-push marks xs x is
  unmarked-push (false ∷ marks) (y ∷ xs) x is = ap (λ ys. y ∷ ys) (unmarked-push marks xs x is)

-- ---- words

-- marked objects and the others make all objects
words_in-marked : (marks : List Bool) (xs : List Object) → words_in (marked marks xs) + words_in (unmarked marks xs) ≡ words_in xs
words_in-marked [] xs = omega arith
words_in-marked (true ∷ marks) [] = refl
words_in-marked (false ∷ marks) [] = refl
words_in-marked (true ∷ marks) (x ∷ xs) =
    omega (arith, words_in-marked marks xs, sum_by-cons size x (marked marks xs), sum_by-cons size x xs)
words_in-marked (false ∷ marks) (x ∷ xs) =
    omega (arith, words_in-marked marks xs, sum_by-cons size x (unmarked marks xs), sum_by-cons size x xs)

-- objects and free chunks make all chunks
words_in-chunks : (chunks : List (List ℕ))
    → words_in (objects_of chunks) + length (concat (free_among chunks)) ≡ length (concat chunks)
words_in-chunks [] = refl
words_in-chunks (chunk ∷ chunks) =
    elim (cases_Bool (is_object chunk)) [
      | inl used ↦
          rw used
          (omega (
            arith,
            sum_by-cons size (record { first = 0; chunk = chunk }) (map (moved_on (length chunk)) (objects_of chunks)),
            words_in-moved_on (length chunk) (objects_of chunks),
            words_in-chunks chunks,
            length-append chunk (concat chunks),
          ))
      | inr free ↦
          rw free
          (omega (
            arith,
            words_in-moved_on (length chunk) (objects_of chunks),
            words_in-chunks chunks,
            length-append chunk (concat chunks),
            length-append chunk (concat (free_among chunks)),
          ))
    ]

-- so do marked objects, the others and free chunks
pub sums_of-whole : (marks : List Bool) (chunks : List (List ℕ))
    → let sums = sums_of marks chunks in
    sums.live_words + sums.dead_words + sums.free_words ≡ length (concat chunks)
sums_of-whole marks chunks = omega (arith, words_in-marked marks (objects_of chunks), words_in-chunks chunks)

-- there are no more free chunks than words
pub free-le : (chunks : List (List ℕ)) → AllByRecursion IsChunk chunks → length (free_among chunks) ≤ length (concat (free_among chunks))
free-le [] all = omega arith
free-le (chunk ∷ chunks) all =
    elim (cases_Bool (is_object chunk)) [
      | inl used ↦ rw used (free-le chunks all.1)
      | inr free ↦
          rw free
          (omega (arith, free-le chunks all.1, length-append chunk (concat (free_among chunks)), length-chunk chunk all.0))
    ]

-- ---- one chunk more

same_sums : {l d n f l' d' n' f' : ℕ} → l ≡ l' → d ≡ d' → n ≡ n' → f ≡ f'
    → ◌≡◌ {A = ChunkSums} (record { live_words = l; dead_words = d; free_chunks = n; free_words = f })
    (record { live_words = l'; dead_words = d'; free_chunks = n'; free_words = f' })
same_sums p q r s = cc

module _ (marks : List Bool) (chunks : List (List ℕ)) (chunk : List ℕ) where
  abbrev sums : ChunkSums
  sums = sums_of marks chunks

  abbrev pushed : List (List ℕ)
  pushed = chunks ++ chunk ∷ []

  abbrev last : Object
  last = record { first = length (concat chunks); chunk = chunk }

  sums_of-push_free : is_object chunk ≡ false
      → sums_of marks pushed ≡ record sums { free_chunks = sums.free_chunks + 1; free_words = sums.free_words + length chunk }
  sums_of-push_free free =
      let same : free_among pushed ≡ free_among chunks ++ chunk ∷ [] =
      filter-append (λ c. not (is_object c)) chunks (chunk ∷ []) ∙ rw free refl in
      same_sums (ap (λ (os : List Object). words_in (marked marks os)) (objects_of-push_free chunks chunk free))
      (ap (λ (os : List Object). words_in (unmarked marks os)) (objects_of-push_free chunks chunk free))
      (ap length same ∙ length-append (free_among chunks) (chunk ∷ []))
      (ap (λ (cs : List (List ℕ)). length (concat cs)) same
      ∙ ap length (concat-push (free_among chunks) chunk)
      ∙ length-append (concat (free_among chunks)) chunk)

  module _ (used : is_object chunk ≡ true) where
    same_free : free_among pushed ≡ free_among chunks
    same_free = filter-append (λ c. not (is_object c)) chunks (chunk ∷ []) ∙ rw used (append-nil (free_among chunks))

    -- the words of some objects and one more
    words-more : (os : List Object) → words_in (os ++ last ∷ []) ≡ words_in os + length chunk
    words-more os = omega (arith, sum_by-append size os (last ∷ []), sum_by-cons size last [])

    sums_of-push_live : is_marked marks (length (objects_of chunks)) ≡ true
        → sums_of marks pushed ≡ record sums { live_words = sums.live_words + length chunk }
    sums_of-push_live is =
        same_sums
        (ap (λ (os : List Object). words_in (marked marks os)) (objects_of-push chunks chunk used)
        ∙ ap words_in (marked-push marks (objects_of chunks) last is)
        ∙ words-more (marked marks (objects_of chunks)))
        (ap (λ (os : List Object). words_in (unmarked marks os)) (objects_of-push chunks chunk used)
        ∙ ap words_in (unmarked-push_marked marks (objects_of chunks) last is))
        (ap length same_free)
        (ap (λ (cs : List (List ℕ)). length (concat cs)) same_free)

    sums_of-push_dead : is_marked marks (length (objects_of chunks)) ≡ false
        → sums_of marks pushed ≡ record sums { dead_words = sums.dead_words + length chunk }
    sums_of-push_dead is =
        same_sums
        (ap (λ (os : List Object). words_in (marked marks os)) (objects_of-push chunks chunk used)
        ∙ ap words_in (marked-push_unmarked marks (objects_of chunks) last is))
        (ap (λ (os : List Object). words_in (unmarked marks os)) (objects_of-push chunks chunk used)
        ∙ ap words_in (unmarked-push marks (objects_of chunks) last is)
        ∙ words-more (unmarked marks (objects_of chunks)))
        (ap length same_free)
        (ap (λ (cs : List (List ℕ)). length (concat cs)) same_free)

-- ---- a walk that adds up

pub record IsSumming (marks : List Bool) (chunks : List (List ℕ)) (place object : ℕ) (sums : ChunkSums) : Type 0 where
  pub done : List (List ℕ)
  pub walked : IsWalked chunks place object done
  pub sums_are : sums ≡ sums_of marks done

pub IsSumming-start : (marks : List Bool) (chunks : List (List ℕ)) → AllByRecursion IsChunk chunks
    → IsSumming marks chunks 0 0 (record { live_words = 0; dead_words = 0; free_chunks = 0; free_words = 0 })
IsSumming-start marks chunks all =
    record { done = []; walked = IsWalked-none chunks all; sums_are = same_sums (sym (ap words_in (marked-nil marks))) (sym (ap words_in (unmarked-nil marks))) refl refl }

module _ {marks : List Bool} {chunks : List (List ℕ)} {place object : ℕ} {sums : ChunkSums}
    (so_far : IsSumming marks chunks place object sums) where
  -- the sums so far are of the words so far
  pub sums-whole : sums.live_words + sums.dead_words + sums.free_words ≡ place
  sums-whole =
      omega (
        arith,
        ap (λ (s : ChunkSums). s.live_words) so_far.sums_are,
        ap (λ (s : ChunkSums). s.dead_words) so_far.sums_are,
        ap (λ (s : ChunkSums). s.free_words) so_far.sums_are,
        sums_of-whole marks so_far.done,
        so_far.walked.place_is,
      )

  pub sums-few : sums.free_chunks ≤ sums.free_words
  sums-few =
      omega (
        arith,
        ap (λ (s : ChunkSums). s.free_chunks) so_far.sums_are,
        ap (λ (s : ChunkSums). s.free_words) so_far.sums_are,
        free-le so_far.done so_far.walked.each,
      )

  -- at the end they are the sums of all chunks
  pub sums-end : length (concat chunks) ≤ place → sums ≡ sums_of marks chunks
  sums-end le = so_far.sums_are ∙ ap (sums_of marks) (at_end so_far.walked le)

  module _ (words : List ℕ) (words_are : words ≡ concat chunks) (left : place < length words)
      (header : Chunk) (begins : BeginsWith (drop place words) header) where
    abbrev at : IsAtChunk chunks place object so_far.done
    at = here so_far.walked words words_are left

    same_length : header.length ≡ length at.chunk
    same_length = header_length so_far.walked words words_are left header begins

    same_header : header ≡ description at.chunk
    same_header = header_is so_far.walked words words_are left header begins

    -- a free chunk more
    pub IsSumming-free : header.kind ≡ Free
        → IsSumming marks chunks (place + header.length) object
        (record sums { free_chunks = sums.free_chunks + 1; free_words = sums.free_words + header.length })
    IsSumming-free free =
        record {
          done = so_far.done ++ at.chunk ∷ [];
          walked = IsWalked-more_free so_far.walked words words_are left header begins free;
          sums_are =
              same_sums (ap (λ (s : ChunkSums). s.live_words) so_far.sums_are) (ap (λ (s : ChunkSums). s.dead_words) so_far.sums_are)
              (ap (λ (s : ChunkSums). s.free_chunks + 1) so_far.sums_are)
              (ap (λ (s : ChunkSums). s.free_words + header.length) so_far.sums_are
              ∙ ap (λ (n : ℕ). length (concat (free_among so_far.done)) + n) same_length)
              ∙ sym (sums_of-push_free marks so_far.done at.chunk (chunk_free at header same_header free));
        }

    module _ (used : header.kind ≡ Free → ⊥) where
      is_used : is_object at.chunk ≡ true
      is_used = chunk_used at header same_header used

      -- a marked object more
      pub IsSumming-live : is_marked marks object ≡ true
          → IsSumming marks chunks (place + header.length) (object + 1) (record sums { live_words = sums.live_words + header.length })
      IsSumming-live is =
          record {
            done = so_far.done ++ at.chunk ∷ [];
            walked = IsWalked-more_object so_far.walked words words_are left header begins used;
            sums_are =
                same_sums
                (ap (λ (s : ChunkSums). s.live_words + header.length) so_far.sums_are
                ∙ ap (λ (n : ℕ). words_in (marked marks (objects_of so_far.done)) + n) same_length)
                (ap (λ (s : ChunkSums). s.dead_words) so_far.sums_are) (ap (λ (s : ChunkSums). s.free_chunks) so_far.sums_are)
                (ap (λ (s : ChunkSums). s.free_words) so_far.sums_are)
                ∙ sym (sums_of-push_live marks so_far.done at.chunk is_used (ap (is_marked marks) (sym at.object_is) ∙ is));
          }

      -- another object more
      pub IsSumming-dead : is_marked marks object ≡ false
          → IsSumming marks chunks (place + header.length) (object + 1) (record sums { dead_words = sums.dead_words + header.length })
      IsSumming-dead is =
          record {
            done = so_far.done ++ at.chunk ∷ [];
            walked = IsWalked-more_object so_far.walked words words_are left header begins used;
            sums_are =
                same_sums (ap (λ (s : ChunkSums). s.live_words) so_far.sums_are)
                (ap (λ (s : ChunkSums). s.dead_words + header.length) so_far.sums_are
                ∙ ap (λ (n : ℕ). words_in (unmarked marks (objects_of so_far.done)) + n) same_length)
                (ap (λ (s : ChunkSums). s.free_chunks) so_far.sums_are) (ap (λ (s : ChunkSums). s.free_words) so_far.sums_are)
                ∙ sym (sums_of-push_dead marks so_far.done at.chunk is_used (ap (is_marked marks) (sym at.object_is) ∙ is));
          }
