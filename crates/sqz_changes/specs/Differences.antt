-- Where partners differ.
use Rattle.std.specs.Prelude.{ℕ, zero, suc, Bool, true, false, not, ◌||◌, nat_eq, List, [], ◌∷◌, ◌++◌, length, map}
use Rattle.std.specs.Prelude.{Option, Some, None}
use Rattle.std.specs.List.{filter}
use Rattle.std.specs.Option.{option_eq}
use Rattle.sqz_image.specs.declared.slot.Slot.{Slot}
use Rattle.sqz_image.specs.declared.slot.Slot.TheVariants.{ClassWord, Field}
use Rattle.sqz_trace.specs.Graph.{is_marked}
use Rattle.sqz_trace.specs.Slots.{slot_word}
use Rattle.sqz_alike.specs.declared.matching.Pair.{Pair}
use Rattle.sqz_alike.specs.Partners.{pair_at}
use Rattle.sqz_alike.specs.Seen.{seen_target}
use Rattle.sqz_changes.specs.declared.place.Difference.{Difference}
use Rattle.sqz_changes.specs.declared.place.Place.{Place}
use Rattle.sqz_changes.specs.declared.place.Place.TheVariants.{Header, Hash, Words, Trailer, Slot as At}
use Rattle.sqz_changes.specs.Compared.{Compared, common_fields, is_pair, new_chunk, old_chunk}
use Rattle.sqz_changes.specs.Headers.{hash_differs, header_differs}
use Rattle.sqz_changes.specs.Words.{trailer_differs, words_differ}

-- two slots are the same if they lead to partners, or if neither leads to an object and both hold
-- the same word
abbrev pub slots_differ : List Pair → Option ℕ → Option ℕ → Option ℕ → Option ℕ → Bool
slots_differ pairs (Some old) (Some new) word other = not (is_pair pairs old new)
slots_differ pairs (Some old) None word other = true
slots_differ pairs None (Some new) word other = true
slots_differ pairs None None word other = not (option_eq nat_eq word other)

abbrev pub slot_differs : Compared → Pair → Slot → Bool
slot_differs compared pair slot =
    slots_differ compared.pairs (seen_target compared.old pair.old slot) (seen_target compared.new pair.new slot)
    (slot_word (old_chunk compared pair) slot) (slot_word (new_chunk compared pair) slot)

-- whether the objects of a pair differ at a place
abbrev pub differs_at : Compared → Pair → Place → Bool
differs_at compared pair Header = header_differs (old_chunk compared pair) (new_chunk compared pair)
differs_at compared pair Hash = hash_differs (old_chunk compared pair) (new_chunk compared pair)
differs_at compared pair Words =
    words_differ compared.old.memory.order compared.new.memory.order (old_chunk compared pair) (new_chunk compared pair)
differs_at compared pair Trailer =
    trailer_differs compared.old.memory.order compared.new.memory.order (old_chunk compared pair) (new_chunk compared pair)
differs_at compared pair (At slot) = slot_differs compared pair slot

abbrev pub differs : Compared → Difference → Bool
differs compared at = differs_at compared (pair_at compared.pairs at.pair) at.place

-- the class word and the first `count` fields, as slots
abbrev pub slots_to : ℕ → List Slot
slots_to zero = ClassWord ∷ []
slots_to (suc count) = slots_to count ++ Field count ∷ []

-- the slots that both objects of a pair have
abbrev pub common_slots : Compared → ℕ → List Slot
common_slots compared index = slots_to (common_fields compared (pair_at compared.pairs index))

abbrev pub head_places : List Place
head_places = Header ∷ Hash ∷ Words ∷ Trailer ∷ []

abbrev pub slot_places : List Slot → List Place
slot_places slots = map (λ (slot : Slot). At slot) slots

-- the places at which a pair with these slots is compared, in order
abbrev pub places : List Slot → List Place
places slots = head_places ++ slot_places slots

-- these places of the pair at an index
abbrev pub at_places : ℕ → List Place → List Difference
at_places index places = map (λ (place : Place). record { pair = index; place = place }) places

-- all places at which the pair at an index is compared
abbrev pub places_of : Compared → ℕ → List Difference
places_of compared index = at_places index (places (common_slots compared index))

-- those of the first `count` pairs
abbrev pub first_places : Compared → ℕ → List Difference
first_places compared zero = []
first_places compared (suc count) = first_places compared count ++ places_of compared count

-- all differences, in the order of the walk
abbrev pub differences : Compared → List Difference
differences compared = filter (differs compared) (first_places compared (length compared.pairs))

-- a difference is quiet if it is one of hashes or trailers, or if an object of its pair is quiet
abbrev pub is_quiet_place : Place → Bool
is_quiet_place Hash = true
is_quiet_place Trailer = true
is_quiet_place _ = false

abbrev pub is_quiet_pair : Compared → Pair → Bool
is_quiet_pair compared pair = is_marked compared.old_quiet pair.old || is_marked compared.new_quiet pair.new

abbrev pub is_quiet : Compared → Difference → Bool
is_quiet compared at = is_quiet_place at.place || is_quiet_pair compared (pair_at compared.pairs at.pair)

abbrev pub is_shown : Compared → Difference → Bool
is_shown compared at = not (is_quiet compared at)
