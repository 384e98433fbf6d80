-- An object keeps its length when it moves, so that the live objects have as many words after as
-- before.
-- Serves `CompactedLemmas`, `MovedShapeLemmas` and `WordLemmas`; `CompactionLemmas`,
-- `CorrespondenceLemmas` and `FixedPointLemmas` of `sqz_tool`.
use Rattle.std.proofs.Common.{◌≡◌, ℕ, ◌+◌, ◌<◌, Bool, true, false, List, [], ◌∷◌, map, length, take, drop, refl, arith}
use Rattle.std.specs.List.{concat, AllByRecursion}
use Rattle.std.proofs.lemmas.List.{length-append, length-map, length-drop, length-take}
use Rattle.std.proofs.lemmas.List.Sums.{sum_by-cons}
use Rattle.sqz_object.specs.Chunk.{IsChunk, chunk_kind, before, fields}
use Rattle.sqz_object.proofs.ChunkLemmas.{chunk_kind_is, chunk_has_header}
use Rattle.sqz_image.specs.Objects.{Memory, Object, objects, words_in}
use Rattle.sqz_image.proofs.ObjectLemmas.{objects_keep}
use Rattle.sqz_trace.specs.declared.weak.Weak.{Weak}
use Rattle.sqz_trace.specs.Strong.{is_weak, strong}
use Rattle.sqz_trace.specs.Live.{marked, live, live_words}
use Rattle.sqz_slide.specs.Moved.{moved_field, moved_weak, moved_header, moved_others, moved_fields, moved, moved_objects}
use Rattle.sqz_slide.proofs.HeaderLemmas.{length-moved_header}

abbrev size : Object → ℕ
size object = length object.chunk

-- what holds of each holds of the marked ones
pub All-marked : {X : Type 0} (P : X → Type 0) (marks : List Bool) (xs : List X) → AllByRecursion P xs → AllByRecursion P (marked marks xs)
All-marked P [] xs h = tt
All-marked P (true ∷ marks) [] h = tt
All-marked P (false ∷ marks) [] h = tt
All-marked P (true ∷ marks) (x ∷ xs) h = (h.0, All-marked P marks xs h.1)
All-marked P (false ∷ marks) (x ∷ xs) h = All-marked P marks xs h.1

module _ (memory : Memory) (weak : Weak) (marks : List Bool) where
  -- there are as many fields after the strong ones
  length-moved_others : (test : Bool) (others : List ℕ) → length (moved_others memory weak marks test others) ≡ length others
  length-moved_others true others = length-map others (moved_weak memory weak marks)
  length-moved_others false others = refl

  -- there are as many fields after the move
  pub length-moved_fields : (chunk : List ℕ) → length (moved_fields memory weak marks chunk) ≡ length (fields chunk)
  length-moved_fields chunk =
      let count = strong memory weak chunk in
      let front = take count (fields chunk) in
      let others = drop count (fields chunk) in
      let test = is_weak weak chunk in
      let whole = length-append (map (moved_field memory marks) front) (moved_others memory weak marks test others) in
      omega (
        arith,
        whole,
        length-map front (moved_field memory marks),
        length-moved_others test others,
        length-take count (fields chunk),
        length-drop count (fields chunk),
      )

  -- an object has as many words after the move
  pub length-moved : (chunk : List ℕ) → IsChunk chunk → length (moved memory weak marks chunk) ≡ length chunk
  length-moved chunk (kind, h) =
      let is : chunk_kind chunk ≡ kind = chunk_kind_is kind chunk h in
      let headed : before chunk < length chunk = rw is (chunk_has_header kind chunk h) in
      let header = length-moved_header memory marks (chunk_kind chunk) chunk headed in
      let whole = length-append (moved_header memory marks (chunk_kind chunk) chunk) (moved_fields memory weak marks chunk) in
      omega (arith, whole, length-moved_fields chunk, length-drop (before chunk + 1) chunk)

  abbrev pub words_after : Object → List ℕ
  words_after object = moved memory weak marks object.chunk

  -- objects have as many words together
  pub length-all : (live : List Object) → AllByRecursion (λ object. IsChunk object.chunk) live
      → length (concat (map words_after live)) ≡ words_in live
  length-all [] h = refl
  length-all (object ∷ live) h =
      let whole = length-append (words_after object) (concat (map words_after live)) in
      omega (arith, whole, length-moved object.chunk h.0, length-all live h.1, sum_by-cons size object live)

  -- the live objects after the move have as many words as before
  pub length-moved_objects : AllByRecursion IsChunk memory.chunks
      → length (concat (moved_objects memory weak marks)) ≡ live_words memory marks
  length-moved_objects chunks =
      let all = objects_keep IsChunk memory.chunks chunks in
      length-all (live memory marks) (All-marked (λ object. IsChunk object.chunk) marks (objects memory) all)
