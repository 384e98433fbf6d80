-- The strong slots of an object: those that marking follows. All traced slots are strong, except
-- weak slots when these are cleared.
use Rattle.std.specs.Prelude.{ℕ, zero, suc, ◌+◌, ◌*◌, ◌/◌, ◌%◌, ◌^◌, nat_lt, Bool, false, ◌==◌, if◌then◌else◌}
use Rattle.std.specs.Prelude.{List, ◌∷◌, length, Option, Some, None, option_and_then}
use Rattle.sqz_object.specs.declared.chunk.Kind.{Kind}
use Rattle.sqz_object.specs.declared.chunk.Kind.TheVariants.{Three, Two, Free, Short}
use Rattle.sqz_object.specs.Chunk.{chunk_kind, compact_index, fields}
use Rattle.sqz_object.specs.Layout.{layout, is_weak_layout}
use Rattle.sqz_image.specs.declared.slot.Slot.TheVariants.{ClassWord, Field}
use Rattle.sqz_image.specs.Objects.{Memory, chunk_words, find}
use Rattle.sqz_trace.specs.declared.weak.Weak.{Weak}
use Rattle.sqz_trace.specs.declared.weak.Weak.TheVariants.{Keep, Clear}
use Rattle.sqz_trace.specs.Slots.{traced}
use Rattle.sqz_trace.specs.Targets.{named_in, named_among}

-- an object has weak slots if its layout has them and they are cleared
abbrev pub is_weak : Weak → List ℕ → Bool
is_weak Keep chunk = false
is_weak Clear chunk = is_weak_layout (layout chunk)

-- one less; None for 0
abbrev pub less_one : ℕ → Option ℕ
less_one zero = None
less_one (suc number) = Some number

-- the number of fixed fields of a class's instances, by the word of its field 2: a SmallInteger
-- whose word has one more than that number, the lower six bits in its bits 2 to 7 and the others
-- in its bits 17 and 18
abbrev pub fixed_in : ℕ → Option ℕ
fixed_in word = if word % 2 == 1 then less_one (word / 2 ^ 17 % 4 * 64 + word / 4 % 64) else None

-- the same number by the fields of the class; None if it states no number
abbrev pub fixed_fields : List ℕ → Option ℕ
fixed_fields (_ ∷ _ ∷ word ∷ _) = fixed_in word
fixed_fields _ = None

-- the same number by the class; None also if there is no class
abbrev pub fixed_by : Memory → Option ℕ → Option ℕ
fixed_by memory class = option_and_then (λ index. fixed_fields (fields (chunk_words memory index))) class

-- a stated number, if it is at most `count`; else 0
abbrev pub unless_above : ℕ → Option ℕ → ℕ
unless_above count None = 0
unless_above count (Some stated) = if nat_lt count stated then 0 else stated

-- the number of strong fields of an object, by its class, from field 0 on: the traced ones; for a
-- weak object the fixed ones
abbrev pub strong_by : Memory → Weak → List ℕ → Option ℕ → ℕ
strong_by memory weak chunk class =
    if is_weak weak chunk then unless_above (length (fields chunk)) (fixed_by memory class) else traced chunk

-- the same number, taking as the class what the class word points to
abbrev pub strong_by_word : Memory → Weak → List ℕ → ℕ
strong_by_word memory weak chunk = strong_by memory weak chunk (named_in memory chunk ClassWord)

-- the object that a field of an object points to, if the field is strong by the class word,
-- whatever the class. The array of compact classes is found this way, since a weak object's own
-- class cannot be looked up through its own fields
abbrev pub held_by_word : Memory → Weak → ℕ → ℕ → Option ℕ
held_by_word memory weak index field =
    named_among memory (strong_by_word memory weak (chunk_words memory index)) (chunk_words memory index) (Field field)

-- the array of compact classes, which field 28 of the special objects array points to
abbrev pub compact_classes : Memory → Weak → Option ℕ
compact_classes memory weak = option_and_then (λ special. held_by_word memory weak special 28) (find memory memory.special)

-- the class with a compact index: field 0 of the array of compact classes points to the one with
-- index 1. The format defines it by the targets of strong slots (`CompactClasses`), and
-- `laws::class_by_compact_index` says that both agree
abbrev pub compact_class : Memory → Weak → ℕ → Option ℕ
compact_class memory weak zero = None
compact_class memory weak (suc field) =
    option_and_then (λ array. held_by_word memory weak array field) (compact_classes memory weak)

-- the class of an object with a header of this kind; the compact index counts only if there is no
-- class word
abbrev pub class_by : Memory → Weak → List ℕ → Kind → Option ℕ
class_by memory weak chunk Three = named_in memory chunk ClassWord
class_by memory weak chunk Two = named_in memory chunk ClassWord
class_by memory weak chunk Free = None
class_by memory weak chunk Short = compact_class memory weak (compact_index chunk)

-- the class of the object with these words
abbrev pub class_of : Memory → Weak → List ℕ → Option ℕ
class_of memory weak chunk = class_by memory weak chunk (chunk_kind chunk)

-- the number of strong fields of the object with these words, from field 0 on
abbrev pub strong : Memory → Weak → List ℕ → ℕ
strong memory weak chunk = strong_by memory weak chunk (class_of memory weak chunk)
