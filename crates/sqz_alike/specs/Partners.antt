-- Which objects of two images are partners: a walk from objects with equal names and from the roots.
use Rattle.std.specs.Prelude.{◌≡◌, ◌&&◌, ◌==◌, ℕ, zero, suc, Bool, if◌then◌else◌}
use Rattle.std.specs.Prelude.{List, [], ◌∷◌, ◌++◌, length, min, slice_index, slice_index_or, Option, Some, None}
use Rattle.sqz_image.specs.declared.slot.Slot.{Slot}
use Rattle.sqz_image.specs.declared.slot.Slot.TheVariants.{ClassWord, Field}
use Rattle.sqz_image.specs.Objects.{chunk_words, find}
use Rattle.sqz_trace.specs.Graph.{is_marked}
use Rattle.sqz_trace.specs.Slots.{traced}
use Rattle.sqz_alike.specs.declared.matching.Pair.{Pair}
use Rattle.sqz_alike.specs.declared.sides.Sides.{Sides}
use Rattle.sqz_alike.specs.Matching.{are_free}
use Rattle.sqz_alike.specs.Seen.{Seen, seen, seen_target}

-- two images as they are compared, with a number for each object: only objects with equal numbers can
-- be partners
pub record SeenSides : Type 0 where
  pub old : Seen
  pub new : Seen
  pub old_kinds : List ℕ
  pub new_kinds : List ℕ

abbrev pub seen_sides : Sides → SeenSides
seen_sides sides = record {
  old = seen sides.old.now;
  new = seen sides.new.now;
  old_kinds = sides.old_kinds.now;
  new_kinds = sides.new_kinds.now;
}

-- whether both objects are live
abbrev pub are_live : SeenSides → Pair → Bool
are_live sides pair = is_marked sides.old.marks pair.old && is_marked sides.new.marks pair.new

-- whether both objects have the same number
abbrev pub are_of_one_kind : SeenSides → Pair → Bool
are_of_one_kind sides pair = slice_index sides.old_kinds pair.old == slice_index sides.new_kinds pair.new

-- whether two objects become partners when they are offered as a pair
abbrev pub are_partners : SeenSides → List Pair → Pair → Bool
are_partners sides pairs pair = are_live sides pair && (are_free pairs pair && are_of_one_kind sides pair)

-- the pairs after one more was offered
abbrev pub offer : SeenSides → List Pair → Pair → List Pair
offer sides pairs pair = if are_partners sides pairs pair then pairs ++ pair ∷ [] else pairs

-- those after the first of these were offered one after the other
abbrev pub offer_first : SeenSides → List Pair → List Pair → ℕ → List Pair
offer_first sides pairs offered zero = pairs
offer_first sides pairs offered (suc count) =
    offer sides (offer_first sides pairs offered count) (slice_index_or offered count record { old = 0; new = 0 })

-- two targets are offered, if there are both
abbrev pub offer_both : SeenSides → List Pair → Option ℕ → Option ℕ → List Pair
offer_both sides pairs (Some old) (Some new) = offer sides pairs record { old = old; new = new }
offer_both sides pairs (Some old) None = pairs
offer_both sides pairs None (Some new) = pairs
offer_both sides pairs None None = pairs

-- what a slot of both objects of a pair leads to is offered
abbrev pub offer_targets : SeenSides → List Pair → Pair → Slot → List Pair
offer_targets sides pairs pair slot =
    offer_both sides pairs (seen_target sides.old pair.old slot) (seen_target sides.new pair.new slot)

-- what the class word and the first `count` fields of both lead to, in this order
abbrev pub offer_slots : SeenSides → List Pair → Pair → ℕ → List Pair
offer_slots sides pairs pair zero = offer_targets sides pairs pair ClassWord
offer_slots sides pairs pair (suc count) = offer_targets sides (offer_slots sides pairs pair count) pair (Field count)

-- the number of fields that are slots of both objects
abbrev pub common_slots : SeenSides → Pair → ℕ
common_slots sides pair =
    min (traced (chunk_words sides.old.memory pair.old)) (traced (chunk_words sides.new.memory pair.new))

abbrev pub pair_at : List Pair → ℕ → Pair
pair_at pairs place = slice_index_or pairs place record { old = 0; new = 0 }

-- what the slots of the pair at a place lead to is offered
abbrev pub follow : SeenSides → List Pair → ℕ → List Pair
follow sides pairs place = offer_slots sides pairs (pair_at pairs place) (common_slots sides (pair_at pairs place))

-- the pairs after as many of them were followed, in the order in which they were found
abbrev pub follow_first : SeenSides → List Pair → ℕ → List Pair
follow_first sides pairs zero = pairs
follow_first sides pairs (suc count) = follow sides (follow_first sides pairs count) count

-- the roots of two images
pub record AreRoots (old new : Seen) (roots : Pair) : Type 0 where
  pub old_is : find old.memory old.memory.special ≡ Some roots.old
  pub new_is : find new.memory new.memory.special ≡ Some roots.new

-- the pairs that a walk finds if objects with equal names are offered first, then the roots, and
-- then what the slots of each pair lead to
pub record AreFound (sides : SeenSides) (named pairs : List Pair) : Type 0 where
  pub roots : Pair
  pub are_roots : AreRoots sides.old sides.new roots
  pub walked : pairs ≡ follow_first sides (offer sides (offer_first sides [] named (length named)) roots) (length pairs)
