-- When two images are alike.
use Rattle.std.specs.Prelude.{◌≡◌, ◌↔◌, ◌<◌, ℕ, true, List, map, drop, length, Option, Some, None, Contains}
use Rattle.sqz_object.specs.declared.layout.Layout.{Layout}
use Rattle.sqz_object.specs.declared.layout.Layout.TheVariants.{Fields, Weak, Context, Words, Bytes, Method}
use Rattle.sqz_object.specs.declared.order.Order.{Order}
use Rattle.sqz_object.specs.Bytes.{bytes_of}
use Rattle.sqz_object.specs.Chunk.{chunk_kind, base_word, fields}
use Rattle.sqz_object.specs.Layout.{layout}
use Rattle.sqz_object.specs.Value.{base_of}
use Rattle.sqz_image.specs.declared.slot.Slot.{Slot}
use Rattle.sqz_image.specs.Objects.{chunk_words, find}
use Rattle.sqz_trace.specs.Graph.{is_marked}
use Rattle.sqz_trace.specs.Slots.{slot_word, traced}
use Rattle.sqz_alike.specs.declared.alikeness.Alikeness.{Alikeness}
use Rattle.sqz_alike.specs.declared.alikeness.Alikeness.TheVariants.{Alike, Differ}
use Rattle.sqz_alike.specs.declared.matching.Pair.{Pair}
use Rattle.sqz_alike.specs.Seen.{Seen, seen_target}

-- two chunks have the same kind of header, size, format, compact class index and hash. Bits 29 to
-- 31 of a base header belong to the machine that saved the image
pub record HeadersMatch (one other : List ℕ) : Type 0 where
  pub kind : chunk_kind one ≡ chunk_kind other
  pub size : length one ≡ length other
  pub format : (base_of (base_word one)).format ≡ (base_of (base_word other)).format
  pub compact : (base_of (base_word one)).compact ≡ (base_of (base_word other)).compact
  pub hash : (base_of (base_word one)).hash ≡ (base_of (base_word other)).hash

-- the untraced words of two objects are the same: those of byte objects and methods are the same
-- bytes in their files
abbrev pub UntracedMatch : Layout → Order → Order → List ℕ → List ℕ → Type 0
UntracedMatch Fields order other_order words others = words ≡ others
UntracedMatch Weak order other_order words others = words ≡ others
UntracedMatch Context order other_order words others = words ≡ others
UntracedMatch Words order other_order words others = words ≡ others
UntracedMatch (Bytes unused) order other_order words others = map (bytes_of order) words ≡ map (bytes_of other_order) others
UntracedMatch Method order other_order words others = map (bytes_of order) words ≡ map (bytes_of other_order) others

-- the words of an object after its traced fields
abbrev pub untraced : List ℕ → List ℕ
untraced chunk = drop (traced chunk) (fields chunk)

-- all of two objects but for their slots
pub record WordsMatch (order other_order : Order) (one other : List ℕ) : Type 0 where
  pub headers : HeadersMatch one other
  pub traced : traced one ≡ traced other
  pub untraced : UntracedMatch (layout one) order other_order (untraced one) (untraced other)

-- two slots lead to objects that are a pair, or they hold the same word, which points to no object
abbrev pub SlotsMatch : List Pair → Option ℕ → Option ℕ → Option ℕ → Option ℕ → Type 0
SlotsMatch pairs (Some old) (Some new) word other = Contains pairs record { old = old; new = new }
SlotsMatch pairs (Some old) None word other = ⊥
SlotsMatch pairs None (Some new) word other = ⊥
SlotsMatch pairs None None word other = word ≡ other

abbrev pub SlotMatches : Seen → Seen → List Pair → Pair → Slot → Type 0
SlotMatches old new pairs pair slot =
    SlotsMatch pairs (seen_target old pair.old slot) (seen_target new pair.new slot)
    (slot_word (chunk_words old.memory pair.old) slot) (slot_word (chunk_words new.memory pair.new) slot)

-- two objects have the same words, and their slots lead to pairs
pub record ObjectsMatch (old new : Seen) (pairs : List Pair) (pair : Pair) : Type 0 where
  pub words : WordsMatch old.memory.order new.memory.order (chunk_words old.memory pair.old) (chunk_words new.memory pair.new)
  pub slots : (slot : Slot) → SlotMatches old new pairs pair slot

-- the special objects arrays are a pair
pub record HasRoots (old new : Seen) (pairs : List Pair) : Type 0 where
  pub roots : Pair
  pub old_is : find old.memory old.memory.special ≡ Some roots.old
  pub new_is : find new.memory new.memory.special ≡ Some roots.new
  pub paired : Contains pairs roots

-- no object is in two pairs
pub record IsOneToOne (pairs : List Pair) : Type 0 where
  pub by_old : (one other : Pair) → Contains pairs one → Contains pairs other → one.old ≡ other.old → one ≡ other
  pub by_new : (one other : Pair) → Contains pairs one → Contains pairs other → one.new ≡ other.new → one ≡ other

-- an object of a pair, on either side
abbrev pub HasOld : List Pair → ℕ → Type 0
HasOld pairs object = (pair : Pair) × Contains pairs pair × (pair.old ≡ object)

abbrev pub HasNew : List Pair → ℕ → Type 0
HasNew pairs object = (pair : Pair) × Contains pairs pair × (pair.new ≡ object)

-- a one-to-one correspondence of the live objects of two images: the special objects arrays are a
-- pair, and the objects of each pair match
pub record IsCorrespondence (old new : Seen) (pairs : List Pair) : Type 0 where
  pub roots : HasRoots old new pairs
  pub once : IsOneToOne pairs
  pub all_old : (object : ℕ) → (is_marked old.marks object ≡ true) ↔ HasOld pairs object
  pub all_new : (object : ℕ) → (is_marked new.marks object ≡ true) ↔ HasNew pairs object
  pub each : (pair : Pair) → Contains pairs pair → ObjectsMatch old new pairs pair

-- two images are alike
pub record AreAlike (old new : Seen) : Type 0 where
  pub pairs : List Pair
  pub correspond : IsCorrespondence old new pairs

-- the objects that differ are objects of images with these numbers of objects
abbrev pub IsInside : ℕ → ℕ → Alikeness → Type 0
IsInside old new Alike = Unit {0}
IsInside old new (Differ pair) = (pair.old < old) × (pair.new < new)
