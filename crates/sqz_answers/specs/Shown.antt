-- What an object is, and its slots.
use Rattle.std.specs.Prelude.{◌≡◌, ◌+◌, ◌*◌, ℕ, zero, suc, Bool, List, length, Option, Some, None}
use Rattle.sqz_object.specs.declared.layout.Layout.{Layout}
use Rattle.sqz_object.specs.declared.layout.Layout.TheVariants.{Bytes}
use Rattle.sqz_object.specs.Value.{base_of}
use Rattle.sqz_object.specs.Chunk.{before, base_word, format, compact_index, fields}
use Rattle.sqz_object.specs.Layout.{layout}
use Rattle.sqz_image.specs.declared.slot.Slot.{Slot}
use Rattle.sqz_image.specs.declared.slot.Slot.TheVariants.{ClassWord, Field}
use Rattle.sqz_image.specs.Objects.{Memory, address_of, chunk_words}
use Rattle.sqz_trace.specs.declared.weak.Weak.{Weak}
use Rattle.sqz_trace.specs.Slots.{slot_word}
use Rattle.sqz_trace.specs.Strong.{class_of}
use Rattle.sqz_facts.specs.declared.objects.ObjectFacts.{ObjectFacts}
use Rattle.sqz_answers.specs.CutOff.{IsRetainedAlone}

-- the facts that the header of an object states
abbrev pub facts_of : Memory → Weak → ℕ → ObjectFacts
facts_of memory weak object = record {
  address = address_of memory object;
  class = class_of memory weak (chunk_words memory object);
  bytes = 4 * length (chunk_words memory object);
  header_words = before (chunk_words memory object) + 1;
  format = format (chunk_words memory object);
  hash = (base_of (base_word (chunk_words memory object))).hash;
  compact_index = compact_index (chunk_words memory object);
  fields = length (fields (chunk_words memory object));
}

-- the bytes that a marked object retains
pub record IsRetained (memory : Memory) (weak : Weak) (marks : List Bool) (object : ℕ) (retained : Option ℕ) : Type 0 where
  pub bytes : ℕ
  pub is : retained ≡ Some bytes
  pub alone : IsRetainedAlone memory weak marks object bytes

-- ---- the slots that are shown

-- the class word, if the header has one
abbrev pub class_words : Option ℕ → ℕ
class_words None = 0
class_words (Some address) = 1

-- the fields, unless they are bytes
abbrev pub shown_fields : Layout → ℕ → ℕ
shown_fields (Bytes unused) count = 0
shown_fields _ count = count

-- the number of these slots of an object
abbrev pub shown_count : List ℕ → ℕ
shown_count chunk = class_words (slot_word chunk ClassWord) + shown_fields (layout chunk) (length (fields chunk))

-- the slot at a place: the class word comes before the fields
abbrev pub slot_by : ℕ → ℕ → Slot
slot_by zero place = Field place
slot_by (suc words) zero = ClassWord
slot_by (suc words) (suc place) = Field place

abbrev pub shown_slot : List ℕ → ℕ → Slot
shown_slot chunk place = slot_by (class_words (slot_word chunk ClassWord)) place
