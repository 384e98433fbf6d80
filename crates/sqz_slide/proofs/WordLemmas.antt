-- The words of the compacted memory are 32-bit words.
-- Serves `FixedPointLemmas` of `sqz_tool`.
use Rattle.std.proofs.Common.{◌≡◌, ℕ, zero, suc, ◌+◌, ◌*◌, ◌%◌, ◌^◌, ◌<◌, ◌≤◌, Bool, List, [], ◌∷◌, ◌++◌, length, map, take, drop}
use Rattle.std.proofs.Common.{slice_index, subst, arith, inl, inr}
use Rattle.std.specs.List.{concat, AllByRecursion}
use Rattle.std.proofs.ByRecursion.{All-weaker}
use Rattle.std.proofs.lemmas.Bool.{cases_lt}
use Rattle.std.proofs.lemmas.List.{get_or-take, get_or-drop, get_or_past, length-take}
use Rattle.sqz_object.specs.Chunk.{IsChunk}
use Rattle.sqz_image.specs.Objects.{Memory, objects, object_count}
use Rattle.sqz_image.proofs.ObjectLemmas.{StandsIn, objects_keep, objects_stand}
use Rattle.sqz_trace.specs.declared.weak.Weak.{Weak}
use Rattle.sqz_trace.specs.Live.{live, live_words}
use Rattle.sqz_slide.specs.Moved.{moved_objects}
use Rattle.sqz_slide.proofs.LengthLemmas.{All-marked, words_after}
use Rattle.sqz_slide.proofs.CompactedLemmas.{All-both}
use Rattle.sqz_slide.proofs.MovedShapeLemmas.{moved-lt}

-- all words are of 32 bits
abbrev pub AreWords : List ℕ → Type 0
AreWords words = (k : ℕ) → slice_index words k < 2 ^ 32

AreWords-append : (xs ys : List ℕ) → AreWords xs → AreWords ys → AreWords (xs ++ ys)
AreWords-append [] ys p q k = q k
AreWords-append (x ∷ xs) ys p q zero = p 0
AreWords-append (x ∷ xs) ys p q (suc k) = AreWords-append xs ys (λ j. p (suc j)) q k

-- those of all parts together
AreWords-concat : {X : Type 0} (f : X → List ℕ) (xs : List X) → AllByRecursion (λ x. AreWords (f x)) xs → AreWords (concat (map f xs))
AreWords-concat f [] h k = omega arith
AreWords-concat f (x ∷ xs) h k = AreWords-append (f x) (concat (map f xs)) h.0 (AreWords-concat f xs h.1) k

-- those of a part
AreWords-part : (words : List ℕ) (first count : ℕ) → AreWords words → AreWords (take count (drop first words))
AreWords-part words first count h k =
    elim (cases_lt k count) [
      | inl below ↦ rw (get_or-take count (drop first words) k 0 below) (rw (get_or-drop first words k 0) (h (first + k)))
      | inr past ↦ rw (get_or_past (take count (drop first words)) k 0 (omega (arith, length-take count (drop first words)))) (omega arith)
    ]

-- the words of the moved objects, where all live objects have room
pub moved_objects-lt : (memory : Memory) (weak : Weak) (marks : List Bool) → memory.base % 4 ≡ 0 → AllByRecursion IsChunk memory.chunks
    → length marks ≡ object_count memory → memory.base + 4 * live_words memory marks ≤ 2 ^ 32
    → ((k : ℕ) → slice_index (concat memory.chunks) k < 2 ^ 32)
    → (k : ℕ) → slice_index (concat (moved_objects memory weak marks)) k < 2 ^ 32
moved_objects-lt memory weak marks aligned chunks sized within each =
    AreWords-concat (words_after memory weak marks) (live memory marks)
    (All-marked (λ object. AreWords (words_after memory weak marks object)) marks (objects memory)
    (All-weaker (λ object. IsChunk object.chunk × StandsIn (concat memory.chunks) object)
    (λ object. AreWords (words_after memory weak marks object))
    (λ object is.
    moved-lt memory weak marks aligned object.chunk is.0 sized chunks within
    (subst AreWords is.1.there (AreWords-part (concat memory.chunks) object.first (length object.chunk) each)))
    (objects memory)
    (All-both (λ object. IsChunk object.chunk) (StandsIn (concat memory.chunks)) (objects memory)
    (objects_keep IsChunk memory.chunks chunks) (objects_stand memory.chunks))))
