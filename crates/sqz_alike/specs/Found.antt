-- The order in which a breadth-first walk from the special objects array finds the live objects.
use Rattle.std.specs.Prelude.{ℕ, zero, suc, ◌==◌, nat_eq, if◌then◌else◌, List, [], ◌∷◌, ◌++◌, length, slice_get}
use Rattle.std.specs.Prelude.{fold, filter_map, Option, Some, None, option_to_list}
use Rattle.std.specs.List.{position_or_len}
use Rattle.sqz_image.specs.declared.slot.Slot.{Slot}
use Rattle.sqz_image.specs.declared.slot.Slot.TheVariants.{ClassWord}
use Rattle.sqz_image.specs.Objects.{object_count, chunk_words, find}
use Rattle.sqz_trace.specs.Slots.{traced, field_slots}
use Rattle.sqz_alike.specs.Seen.{Seen, seen_target}

-- the place of an object among those found; the next place if it is not found yet
abbrev pub place_of : List ℕ → ℕ → ℕ
place_of found object = position_or_len (nat_eq object) found

-- the objects found, with this one at its place
abbrev pub with_object : List ℕ → ℕ → List ℕ
with_object found object =
    if place_of found object == length found then found ++ object ∷ [] else found

-- the slots of an object: the class word, and then the traced fields. If the header has no class
-- word, that slot leads to no object and holds no word
abbrev pub slots_of : List ℕ → List Slot
slots_of chunk = ClassWord ∷ field_slots 0 (traced chunk)

-- the objects found, with those that these slots of an object lead to
abbrev pub with_targets : Seen → ℕ → List ℕ → List Slot → List ℕ
with_targets seen object found slots = fold with_object found (filter_map (seen_target seen object) slots)

-- the objects found after the walk visits an object, if there is one to visit
abbrev pub after_visit : Seen → List ℕ → Option ℕ → List ℕ
after_visit seen found None = found
after_visit seen found (Some object) = with_targets seen object found (slots_of (chunk_words seen.memory object))

-- the objects found after the walk visits the one at a place
abbrev pub visit : Seen → List ℕ → ℕ → List ℕ
visit seen found place = after_visit seen found (slice_get found place)

-- the objects found after the walk visits those at the first `count` places, in order. First it
-- finds the special objects array
abbrev pub found_after : Seen → ℕ → List ℕ
found_after seen zero = option_to_list (find seen.memory seen.memory.special)
found_after seen (suc count) = visit seen (found_after seen count) count

-- all objects that the walk finds: it has visited them all after as many visits as there are
-- objects
abbrev pub in_order : Seen → List ℕ
in_order seen = found_after seen (object_count seen.memory)
