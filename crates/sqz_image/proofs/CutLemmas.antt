-- Cutting words into chunks: there is one way at most, and `cut` finds it.
-- Serves `HeapLemmas` and `HoldsLemmas`.
use Rattle.std.proofs.Common.{◌≡◌, ℕ, zero, suc, ◌≤◌, List, [], ◌∷◌, ◌++◌, length, take, drop, refl, sym, ap, ◌∙◌, arith}
use Rattle.std.specs.List.{concat, AllByRecursion}
use Rattle.std.proofs.lemmas.List.{length-append, take_at, drop_at}
use Rattle.sqz_object.specs.Chunk.{IsChunk}
use Rattle.sqz_object.specs.Partition.{IsPartition, stated_length}
use Rattle.sqz_object.proofs.ChunkLemmas.{length-chunk, stated_length-append}
use Rattle.sqz_image.specs.Memory.{cut, cut_at_most}

stated : (chunk rest : List ℕ) → IsChunk chunk → stated_length (chunk ++ rest) ≡ length chunk
stated chunk rest (kind, h) = stated_length-append kind chunk rest h

-- one step of a cut, where the words begin with a chunk
cut_step : (chunk rest : List ℕ) (times : ℕ) → IsChunk chunk → cut_at_most (suc times) (chunk ++ rest) ≡ chunk ∷ cut_at_most times rest
cut_step [] rest times h = absurd (let k = length-chunk [] h in omega arith)
cut_step (word ∷ chunk) rest times h =
    let front : take (stated_length (word ∷ (chunk ++ rest))) (word ∷ (chunk ++ rest)) ≡ word ∷ chunk =
    rw (stated (word ∷ chunk) rest h) (take_at (word ∷ chunk) rest (length (word ∷ chunk)) refl) in
    let back : drop (stated_length (word ∷ (chunk ++ rest))) (word ∷ (chunk ++ rest)) ≡ rest =
    rw (stated (word ∷ chunk) rest h) (drop_at (word ∷ chunk) rest (length (word ∷ chunk)) refl) in
    rw (front, back) refl

-- any chunks are what their words are cut into
cut_at_most-concat : (chunks : List (List ℕ)) (times : ℕ)
    → AllByRecursion IsChunk chunks → length (concat chunks) ≤ times → cut_at_most times (concat chunks) ≡ chunks
cut_at_most-concat [] zero all le = refl
cut_at_most-concat [] (suc times) all le = refl
cut_at_most-concat (chunk ∷ chunks) zero all le =
    absurd (omega (arith, length-append chunk (concat chunks), length-chunk chunk all.0))
cut_at_most-concat (chunk ∷ chunks) (suc times) all le =
    cut_step chunk (concat chunks) times all.0
    ∙ ap (λ (rest : List (List ℕ)). chunk ∷ rest)
    (cut_at_most-concat chunks times all.1
    (omega (arith, length-append chunk (concat chunks), length-chunk chunk all.0)))

pub cut-concat : (chunks : List (List ℕ)) → AllByRecursion IsChunk chunks → cut (concat chunks) ≡ chunks
unfolding cut
cut-concat chunks all = cut_at_most-concat chunks (length (concat chunks)) all (omega arith)

pub cut-partition : (words : List ℕ) (chunks : List (List ℕ)) → IsPartition words chunks → cut words ≡ chunks
cut-partition words chunks p = ap cut (sym p.whole) ∙ cut-concat chunks p.each
