-- The total number of words of pieces.
-- Serves `writing::word_count`.
use Rattle.std.proofs.Common.{◌≡◌, ℕ, ◌+◌, ◌<◌, ◌≤◌, List, [], ◌∷◌, ◌++◌, map, length, get_or, take, drop, sym, ap, ◌∙◌}
use Rattle.std.proofs.Common.{arith}
use Rattle.std.specs.List.{concat}
use Rattle.std.proofs.lemmas.List.{length-append, map_more, map-append, take-append-drop}

length-concat-append : (xs ys : List (List ℕ)) → length (concat (xs ++ ys)) ≡ length (concat xs) + length (concat ys)
length-concat-append [] ys = omega arith
length-concat-append (x ∷ xs) ys =
    omega (arith, length-append x (concat (xs ++ ys)), length-append x (concat xs), length-concat-append xs ys)

module _ {X : Type 0} (words : X → List ℕ) (pieces : List X) (index : ℕ) where
  -- how many words some pieces have together
  abbrev count_in : List X → ℕ
  count_in xs = length (concat (map words xs))

  pub piece_more : (d : X) → index < length pieces
      → count_in (take (index + 1) pieces) ≡ count_in (take index pieces) + length (words (get_or pieces index d))
  piece_more d lt =
      let here = words (get_or pieces index d) in
      ap (λ (xs : List (List ℕ)). length (concat xs)) (map_more words pieces index d lt)
      ∙ length-concat-append (map words (take index pieces)) (here ∷ [])
      ∙ ap (λ (n : ℕ). count_in (take index pieces) + n) (omega (arith, length-append here []))

  pub pieces_within : count_in (take index pieces) ≤ count_in pieces
  pieces_within =
      let whole : count_in pieces ≡ count_in (take index pieces) + count_in (drop index pieces) =
      ap (λ (xs : List X). count_in xs) (sym (take-append-drop index pieces))
      ∙ ap (λ (xs : List (List ℕ)). length (concat xs)) (map-append words (take index pieces) (drop index pieces))
      ∙ length-concat-append (map words (take index pieces)) (map words (drop index pieces)) in
      omega (arith, whole)
