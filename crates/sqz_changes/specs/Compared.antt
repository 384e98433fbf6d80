-- Two images with the partners of their objects, as they are compared.
use Rattle.std.specs.Prelude.{ℕ, Bool, ◌==◌, ◌&&◌, min, List, [], ◌∷◌, ◌++◌, Option, Some}
use Rattle.std.specs.List.{list_any}
use Rattle.sqz_image.specs.Objects.{chunk_words, find}
use Rattle.sqz_trace.specs.Slots.{traced}
use Rattle.sqz_alike.specs.declared.matching.Pair.{Pair}
use Rattle.sqz_alike.specs.Seen.{Seen, seen}
use Rattle.sqz_changes.specs.declared.comparison.Comparison.{Comparison}

-- the images, the pairs of partners in the order of the walk, the pairs with equal names, and a mark
-- for each object whose differences are quiet
pub record Compared : Type 0 where
  pub old : Seen
  pub new : Seen
  pub pairs : List Pair
  pub named : List Pair
  pub old_quiet : List Bool
  pub new_quiet : List Bool

abbrev pub compared : Comparison → Compared
compared comparison = record {
  old = seen comparison.old.now;
  new = seen comparison.new.now;
  pairs = comparison.matching.now.pairs.items;
  named = comparison.named.now;
  old_quiet = comparison.old_quiet.now;
  new_quiet = comparison.new_quiet.now;
}

-- the words of the objects of a pair
abbrev pub old_chunk : Compared → Pair → List ℕ
old_chunk compared pair = chunk_words compared.old.memory pair.old

abbrev pub new_chunk : Compared → Pair → List ℕ
new_chunk compared pair = chunk_words compared.new.memory pair.new

-- the number of fields that are slots of both objects of a pair
abbrev pub common_fields : Compared → Pair → ℕ
common_fields compared pair = min (traced (old_chunk compared pair)) (traced (new_chunk compared pair))

-- whether two objects are one of these pairs
abbrev pub is_pair : List Pair → ℕ → ℕ → Bool
is_pair pairs old new = list_any (λ (pair : Pair). pair.old == old && pair.new == new) pairs

-- the pair of the special objects arrays
abbrev pub pair_of_both : Option ℕ → Option ℕ → List Pair
pair_of_both (Some old) (Some new) = record { old = old; new = new } ∷ []
pair_of_both _ _ = []

abbrev pub roots_of : Compared → List Pair
roots_of compared =
    pair_of_both (find compared.old.memory compared.old.memory.special) (find compared.new.memory compared.new.memory.special)

-- the pairs that own themselves: those with names, and that of the special objects arrays
abbrev pub anchors : Compared → List Pair
anchors compared = compared.named ++ roots_of compared

abbrev pub is_anchor : Compared → Pair → Bool
is_anchor compared pair = is_pair (anchors compared) pair.old pair.new
