-- Slots that lead nowhere, and objects that are lost.
use Rattle.std.specs.Prelude.{ℕ, ◌&&◌, ◌||◌, not, nat_eq, Bool, false, List, length, Option, Some, None, option_and_then, if◌then◌else◌}
use Rattle.std.specs.Option.{option_eq}
use Rattle.std.specs.List.{filter}
use Rattle.sqz_object.specs.Chunk.{fields}
use Rattle.sqz_object.specs.Value.{value_of}
use Rattle.sqz_image.specs.declared.slot.Slot.{Slot}
use Rattle.sqz_image.specs.declared.slot.Slot.TheVariants.{ClassWord}
use Rattle.sqz_image.specs.Objects.{Memory, address_of, chunk_words, find}
use Rattle.sqz_trace.specs.declared.weak.Weak.{Weak}
use Rattle.sqz_trace.specs.declared.weak.Weak.TheVariants.{Keep}
use Rattle.sqz_trace.specs.Slots.{slots, slot_word}
use Rattle.sqz_trace.specs.Strong.{is_weak, fixed_by, class_of}
use Rattle.sqz_trace.specs.Targets.{named_by}
use Rattle.sqz_trace.specs.Edges.{nil}
use Rattle.sqz_trace.specs.Defects.{lacks_class, is_bad_method, is_bad_context, is_bad_value, states_too_many}
use Rattle.sqz_facts.specs.Classes.{can_be_class}

-- an object that cannot be traced: it has no class, or is a bad method or a bad context
abbrev pub is_untraceable : List ℕ → Bool
is_untraceable chunk = lacks_class chunk || is_bad_method chunk || is_bad_context chunk

-- whether there is an object, it can be a class, and it can be traced. Such an object is never lost
abbrev pub is_class : Memory → Option ℕ → Bool
is_class memory None = false
is_class memory (Some index) = can_be_class memory index && not (is_untraceable (chunk_words memory index))

-- whether a chunk has a class word, and it leads to no class
abbrev pub lacks_class_at : Memory → Option ℕ → Bool
lacks_class_at memory None = false
lacks_class_at memory (Some word) = not (is_class memory (named_by memory word))

abbrev pub is_classless : Memory → List ℕ → Bool
is_classless memory chunk = lacks_class_at memory (slot_word chunk ClassWord)

-- whether a weak object has no class, or has one that states no number of fixed fields, or more than
-- the object has
abbrev pub is_shapeless : Memory → Weak → List ℕ → Bool
is_shapeless memory weak chunk =
    is_weak weak chunk
    && (not (is_class memory (class_of memory weak chunk))
    || states_too_many (fixed_by memory (class_of memory weak chunk)) (length (fields chunk)))

-- whether an object serves even without a class: it can be a class itself, or it is nil, or the
-- special objects array
abbrev pub serves_classless : Memory → ℕ → Bool
serves_classless memory index =
    can_be_class memory index
    || option_eq nat_eq (nil memory Keep) (Some index)
    || option_eq nat_eq (find memory memory.special) (Some index)

-- whether an object is lost: it cannot be traced, or a weak object is without shape, or its class word
-- leads to no class and it does not serve without one
abbrev pub is_lost : Memory → Weak → ℕ → Bool
is_lost memory weak index =
    is_untraceable (chunk_words memory index)
    || is_shapeless memory weak (chunk_words memory index)
    || (is_classless memory (chunk_words memory index) && not (serves_classless memory index))

-- whether there is an object, and it is lost
abbrev pub is_lost_object : Memory → Weak → Option ℕ → Bool
is_lost_object memory weak None = false
is_lost_object memory weak (Some index) = is_lost memory weak index

-- a word leads nowhere if it is neither a SmallInteger nor the address of an object, or if it is the
-- address of an object that is lost
abbrev pub is_dangling : Memory → Weak → ℕ → Bool
is_dangling memory weak word = is_bad_value memory (value_of word) || is_lost_object memory weak (named_by memory word)

abbrev pub is_dangling_word : Memory → Weak → Option ℕ → Bool
is_dangling_word memory weak None = false
is_dangling_word memory weak (Some word) = is_dangling memory weak word

-- a slot of a chunk dangles if its word leads nowhere
abbrev pub dangles : Memory → Weak → List ℕ → Slot → Bool
dangles memory weak chunk slot = is_dangling_word memory weak (slot_word chunk slot)

-- those of these slots of a chunk that dangle
abbrev pub dangling_among : Memory → Weak → List ℕ → List Slot → List Slot
dangling_among memory weak chunk slots = filter (dangles memory weak chunk) slots

-- the slots of a chunk that dangle: the class word comes before the fields
abbrev pub dangling_slots : Memory → Weak → List ℕ → List Slot
dangling_slots memory weak chunk = dangling_among memory weak chunk (slots chunk)

-- the address of an object that is not lost
abbrev pub kept_address : Memory → Weak → ℕ → Option ℕ
kept_address memory weak index = if is_lost memory weak index then None else Some (address_of memory index)

-- the address of nil; None if field 0 of the special objects array points to no object, or to one
-- that is lost
abbrev pub nil_address : Memory → Weak → Option ℕ
nil_address memory weak = option_and_then (kept_address memory weak) (nil memory Keep)
