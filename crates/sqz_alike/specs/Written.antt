-- The live objects of an image, written down as bytes.
use Rattle.std.specs.Prelude.{ℕ, List, [], ◌∷◌, ◌++◌, length, flat_map, Option, Some, None}
use Rattle.sqz_object.specs.declared.chunk.Kind.{Kind}
use Rattle.sqz_object.specs.declared.chunk.Kind.TheVariants.{Three, Two, Free, Short}
use Rattle.sqz_object.specs.declared.layout.Layout.{Layout}
use Rattle.sqz_object.specs.declared.layout.Layout.TheVariants.{Fields, Weak, Context, Words, Bytes, Method}
use Rattle.sqz_object.specs.declared.order.Order.{Order}
use Rattle.sqz_object.specs.declared.order.Order.TheVariants.{Little}
use Rattle.sqz_object.specs.Bytes.{spelling_of}
use Rattle.sqz_object.specs.Chunk.{chunk_kind, base_word, format, compact_index}
use Rattle.sqz_object.specs.Layout.{layout}
use Rattle.sqz_object.specs.Value.{base_of}
use Rattle.sqz_image.specs.declared.slot.Slot.{Slot}
use Rattle.sqz_image.specs.Objects.{chunk_words}
use Rattle.sqz_trace.specs.Slots.{slot_word, traced}
use Rattle.sqz_alike.specs.Alike.{untraced}
use Rattle.sqz_alike.specs.Seen.{Seen, seen_target}
use Rattle.sqz_alike.specs.Found.{place_of, slots_of, in_order}

-- the number that stands for a kind of header
abbrev pub kind_number : Kind → ℕ
kind_number Three = 0
kind_number Two = 1
kind_number Free = 2
kind_number Short = 3

-- the kind of header, size in words, format, compact class index and hash of an object, and the
-- number of its traced fields
abbrev pub header_words : List ℕ → List ℕ
header_words chunk =
    kind_number (chunk_kind chunk) ∷ length chunk ∷ format chunk ∷ compact_index chunk ∷ (base_of (base_word chunk)).hash
    ∷ traced chunk ∷ []

abbrev pub header_bytes : List ℕ → List ℕ
header_bytes chunk = spelling_of Little (header_words chunk)

-- a slot: 1 and the place of the object that it leads to, or 0 and its word if it leads to none;
-- nothing if the object has no such slot
abbrev pub slot_words : List ℕ → Option ℕ → Option ℕ → List ℕ
slot_words found (Some target) word = 1 ∷ place_of found target ∷ []
slot_words found None (Some word) = 0 ∷ word ∷ []
slot_words found None None = []

abbrev pub slot_bytes : Seen → List ℕ → ℕ → Slot → List ℕ
slot_bytes seen found object slot =
    spelling_of Little (slot_words found (seen_target seen object slot) (slot_word (chunk_words seen.memory object) slot))

-- the byte order in which the untraced words of an object are written, by the byte order of the
-- file: the bytes of byte objects and methods are written as they are in the file
abbrev pub untraced_order : Layout → Order → Order
untraced_order Fields order = Little
untraced_order Weak order = Little
untraced_order Context order = Little
untraced_order Words order = Little
untraced_order (Bytes unused) order = order
untraced_order Method order = order

abbrev pub untraced_bytes : Order → List ℕ → List ℕ
untraced_bytes order chunk = spelling_of (untraced_order (layout chunk) order) (untraced chunk)

-- an object: its header, its slots and its untraced words. The objects in `found` have places
abbrev pub object_bytes : Seen → List ℕ → ℕ → List ℕ
object_bytes seen found object =
    header_bytes (chunk_words seen.memory object)
    ++ flat_map (slot_bytes seen found object) (slots_of (chunk_words seen.memory object))
    ++ untraced_bytes seen.memory.order (chunk_words seen.memory object)

-- the live objects, in the order in which the walk finds them
abbrev pub written : Seen → List ℕ
written seen = flat_map (object_bytes seen (in_order seen)) (in_order seen)
