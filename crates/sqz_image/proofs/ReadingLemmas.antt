-- From a file to its image and back.
-- Serves `file_parts::parts_of` and `SavedLemmas`; `CorrespondenceLemmas` and `RunLemmas` of
-- `sqz_tool`.
use Rattle.std.proofs.Common.{◌≡◌, ◌⊎◌, ℕ, ◌+◌, ◌*◌, ◌/◌, ◌-◌, ◌%◌, ◌^◌, ◌<◌, ◌≤◌, Bool, true, false, not, ◌||◌}
use Rattle.std.proofs.Common.{cond, eqb, ltb, List, length, take, drop, slice_index, Option, Some, None, refl}
use Rattle.std.proofs.Common.{sym, ap, subst, ◌∙◌, arith, inl, inr}
use Rattle.std.proofs.lemmas.Option.{none-some}
use Rattle.std.proofs.lemmas.Bool.{eqb-true, ltb-false, cases_lt}
use Rattle.std.proofs.lemmas.List.{length-drop, length-take, drop-drop, get_or-take, get_or_past, get_or-drop}
use Rattle.sqz_object.specs.declared.order.Order.{Order}
use Rattle.sqz_object.specs.Bytes.{words_of}
use Rattle.sqz_object.specs.Partition.{IsPartition}
use Rattle.sqz_object.proofs.WordLemmas.{length-words_of, words_of-lt}
use Rattle.sqz_image.specs.declared.fault.Fault.{Fault}
use Rattle.sqz_image.specs.declared.fault.Fault.TheVariants.{TooShort, BadVersion, BadHeaderSize, BadDataSize}
use Rattle.sqz_image.specs.declared.fault.Fault.TheVariants.{BadBase, Truncated, OutOfMemory}
use Rattle.sqz_image.specs.File.{header_size, order_of, prefix_of, image_bytes, header_of, stated_header_size}
use Rattle.sqz_image.specs.File.{header_offset, data_size, base_address, special_address, data_of, IsHeader}
use Rattle.sqz_image.specs.declared.header.Header.{Header}
use Rattle.sqz_image.specs.Objects.{SavedImage}
use Rattle.sqz_image.specs.Refusals.{header_fault, fault_in_order, header_bytes_fault, file_fault, HasChunks, Holds}
use Rattle.sqz_image.specs.Refusals.{IsUnreadable}
use Rattle.sqz_image.proofs.NumberLemmas.{HasNumber, HasNumber-none, HasNumber-some, HasNumber-if}
use Rattle.sqz_image.specs.Memory.{IsMemory, IsWholeMemory, IsNoMemory}

-- the tests of a header in their order
faults : Bool → Bool → Bool → Bool → Option Fault
faults size multiple base room =
    cond (not size) (Some BadHeaderSize)
    (cond (not multiple) (Some BadDataSize) (cond base (Some BadBase) (cond room (Some Truncated) None)))

no_fault_parts : (size multiple base room : Bool)
    → faults size multiple base room ≡ None → (size ≡ true) × (multiple ≡ true) × (base ≡ false) × (room ≡ false)
unfolding faults
no_fault_parts false multiple base room e = absurd (none-some BadHeaderSize (sym e))
no_fault_parts true false base room e = absurd (none-some BadDataSize (sym e))
no_fault_parts true true true room e = absurd (none-some BadBase (sym e))
no_fault_parts true true false true e = absurd (none-some Truncated (sym e))
no_fault_parts true true false false e = (refl, refl, refl, refl)

-- what a header says in which nothing is wrong
pub record IsSoundHeader (header : List ℕ) (bytes : ℕ) : Type 0 where
  pub multiple : data_size header % 4 ≡ 0
  pub aligned : base_address header % 4 ≡ 0
  pub within : base_address header + data_size header ≤ 2 ^ 32
  pub room : header_size + data_size header ≤ bytes

not_true : (b : Bool) → not b ≡ false → b ≡ true
not_true true e = refl
not_true false e = absurd cc

or_parts : (a b : Bool) → (a || b) ≡ false → (a ≡ false) × (b ≡ false)
or_parts false false e = (refl, refl)
or_parts false true e = absurd cc
or_parts true b e = absurd cc

pub IsSoundHeader-from_no_fault : (header : List ℕ) (bytes : ℕ) → header_fault header bytes ≡ None → IsSoundHeader header bytes
unfolding faults
IsSoundHeader-from_no_fault header bytes e =
    let parts =
    no_fault_parts (eqb (stated_header_size header) header_size) (eqb (data_size header % 4) 0)
    (not (eqb (base_address header % 4) 0) || ltb (2 ^ 32) (base_address header + data_size header))
    (ltb bytes (header_size + data_size header)) e in
    let base = or_parts (not (eqb (base_address header % 4) 0)) (ltb (2 ^ 32) (base_address header + data_size header)) parts.2 in
    record {
      multiple = eqb-true _ _ parts.1;
      aligned = eqb-true _ _ (not_true _ base.0);
      within = ltb-false _ _ base.1;
      room = ltb-false _ _ parts.3;
    }

in_order_parts : (bytes : List ℕ) (found : Option Order) (order : Order)
    → found ≡ Some order → fault_in_order found bytes ≡ None → header_fault (header_of order bytes) (length bytes) ≡ None
in_order_parts bytes found order is e = ap (λ (o : Option Order). fault_in_order o bytes) (sym is) ∙ e

long_enough : (short : Bool) (rest : Option Fault) → cond short (Some TooShort) rest ≡ None → rest ≡ None
long_enough true rest e = absurd (none-some TooShort (sym e))
long_enough false rest e = e

pub sound_header : (bytes : List ℕ) (order : Order)
    → header_bytes_fault bytes ≡ None → order_of bytes ≡ Some order → IsSoundHeader (header_of order bytes) (length bytes)
sound_header bytes order sound is =
    IsSoundHeader-from_no_fault (header_of order bytes) (length bytes)
    (in_order_parts bytes (order_of bytes) order is
    (long_enough (ltb (length bytes) header_size) (fault_in_order (order_of bytes) bytes) sound))

-- bytes at the front are bytes
pub front_fits : (bytes : List ℕ) (count : ℕ) → ((i : ℕ) → slice_index bytes i < 256) → (i : ℕ) → slice_index (take count bytes) i < 256
front_fits bytes count each i =
    elim (cases_lt i count) [
      | inl below ↦ rw (get_or-take count bytes i 0 below) (each i)
      | inr past ↦ rw (get_or_past (take count bytes) i 0 (omega (arith, length-take count bytes))) (omega arith)
    ]

-- and so are those from a place on
pub rest_fits : (bytes : List ℕ) (count : ℕ) → ((i : ℕ) → slice_index bytes i < 256) → (i : ℕ) → slice_index (drop count bytes) i < 256
rest_fits bytes count each i = rw (get_or-drop count bytes i 0) (each (count + i))

-- what the numbers of a sound header allow
pub record HasBounds (words : List ℕ) (base : ℕ) : Type 0 where
  pub few : length words < 2 ^ 30
  pub within : base + 4 * length words ≤ 2 ^ 32
  pub aligned : base % 4 ≡ 0

module _ (bytes header : List ℕ) (order : Order)
    (sound : header_bytes_fault bytes ≡ None)
    (begins : order_of bytes ≡ Some order)
    (is_header : header ≡ header_of order bytes) where
  sound_words : IsSoundHeader header (length bytes)
  sound_words = subst (λ (h : List ℕ). IsSoundHeader h (length bytes)) (sym is_header) (sound_header bytes order sound begins)

  -- the data are all there
  pub data_inside : header_size + data_size header ≤ length bytes
  data_inside = sound_words.room

  -- the words that the header's number of bytes spell
  pub data_is : words_of order (take (data_size header) (drop header_size bytes)) ≡ data_of order bytes
  data_is = ap (λ (h : List ℕ). words_of order (take (data_size h) (drop header_size bytes))) is_header

  pub data_bounds : ((i : ℕ) → slice_index bytes i < 256) → HasBounds (data_of order bytes) (base_address header)
  data_bounds each =
      let fits : data_size header < 2 ^ 32 =
      rw is_header (words_of-lt order (take header_size bytes) (front_fits bytes header_size each) 2) in
      let bytes_of_data = take (data_size header) (drop header_size bytes) in
      let size : length bytes_of_data ≡ data_size header =
      length-take (data_size header) (drop header_size bytes)
      ∙ omega (arith, length-drop header_size bytes, data_inside) in
      let words : length (data_of order bytes) ≡ data_size header / 4 =
      ap length (sym data_is) ∙ length-words_of order bytes_of_data ∙ ap (λ (n : ℕ). n / 4) size in
      let m = sound_words.multiple in
      let w = sound_words.within in
      record {
        few = omega arith;
        within = omega arith;
        aligned = sound_words.aligned;
      }

-- the same of the bytes of a file from its header on
module _ (file header : List ℕ) (order : Order)
    (sound : file_fault file ≡ None)
    (begins : order_of (image_bytes file) ≡ Some order)
    (is_header : header ≡ header_of order (image_bytes file)) where
  -- the image of a memory of the data
  module _ (image : SavedImage) (same_prefix : image.prefix ≡ prefix_of file) (same : image.header ≡ header) where
    pub HasChunks-memory : IsMemory order (base_address header) (special_address header) (data_of order (image_bytes file)) image.memory
        → HasChunks file image
    HasChunks-memory is =
        let order_is = is.in_order in
        record {
          sound = sound;
          prefix = same_prefix;
          order = begins ∙ ap (λ (o : Order). Some o) (sym order_is);
          header = same ∙ is_header ∙ ap (λ (o : Order). header_of o (image_bytes file)) (sym order_is);
          base = is.begins ∙ ap base_address (sym same);
          special = is.special_address ∙ ap special_address (sym same);
          chunks =
              subst (λ (w : List ℕ). IsPartition w image.memory.chunks)
              (ap (λ (o : Order). data_of o (image_bytes file)) (sym order_is)) is.partition;
        }

    pub Holds-memory : IsWholeMemory order (base_address header) (special_address header) (data_of order (image_bytes file)) image.memory
        → Holds file image
    Holds-memory is = record { parts = HasChunks-memory is.is_memory; special = is.found }

  -- why the data are no memory is why the file holds no image
  pub IsUnreadable-memory : (fault : Fault)
      → IsNoMemory order (base_address header) (special_address header) (data_of order (image_bytes file)) fault
      → IsUnreadable file fault
  IsUnreadable-memory fault (inl unreadable) =
      inr (inl record { sound = sound; order = order; in_order = begins; unreadable = unreadable })
  IsUnreadable-memory fault (inr lacks) =
      inr (inr record {
        image = record { prefix = prefix_of file; header = header; memory = lacks.memory };
        parts =
            HasChunks-memory (record { prefix = prefix_of file; header = header; memory = lacks.memory }) refl refl lacks.is_memory;
        missing = lacks.missing;
        refused = lacks.refused;
      })

  -- the same of a call that may be refused memory, too
  pub refused-memory : (fault : Fault)
      → (fault ≡ OutOfMemory) ⊎ IsNoMemory order (base_address header) (special_address header) (data_of order (image_bytes file)) fault
      → ((fault ≡ OutOfMemory) × (file_fault file ≡ None)) ⊎ IsUnreadable file fault
  refused-memory fault (inl none) = inl (none, sound)
  refused-memory fault (inr missing) = inr (IsUnreadable-memory fault missing)

-- ---- the data of a file with a header that has no fault

module _ (file : List ℕ) (header : Header) (is : IsHeader file header) (sound : file_fault file ≡ None) where
  module _ (size : ℕ) (is_size : size ≡ data_size header.words) where
    -- the data lie in the file
    pub data_end : header.offset + 64 + size ≤ length file
    data_end =
        let room = data_inside (image_bytes file) header.words header.order sound is.order is.words in
        let at = is.offset in
        let long = is.long in
        omega (arith, room, at, long, is_size, length-drop {A = ℕ} (header_offset file) file)

    -- their words
    pub data_words_are : words_of header.order (take (header.offset + 64 + size - (header.offset + 64)) (drop (header.offset + 64) file))
        ≡ data_of header.order (image_bytes file)
    data_words_are =
        let same : header.offset + 64 + size - (header.offset + 64) ≡ data_size header.words = omega (arith, is_size) in
        ap (λ (n : ℕ). words_of header.order (take n (drop (header.offset + 64) file))) same
        ∙ ap (λ (bytes : List ℕ). words_of header.order (take (data_size header.words) bytes))
        (sym (drop-drop 64 header.offset file) ∙ ap (λ (n : ℕ). drop 64 (drop n file)) is.offset)
        ∙ data_is (image_bytes file) header.words header.order sound is.order is.words

  pub file_bounds : ((i : ℕ) → slice_index file i < 256)
      → HasBounds (data_of header.order (image_bytes file)) (base_address header.words)
  file_bounds each =
      data_bounds (image_bytes file) header.words header.order sound is.order is.words
      (rest_fits file (header_offset file) each)

-- ---- the refusals 1 to 6 are these

abbrev IsLow : ℕ → Type 0
IsLow number = number ≤ 6

header_fault_low : (header : List ℕ) (bytes : ℕ) → HasNumber IsLow (header_fault header bytes)
header_fault_low header bytes =
    HasNumber-if IsLow _ BadHeaderSize _ (omega arith)
    (HasNumber-if IsLow _ BadDataSize _ (omega arith)
    (HasNumber-if IsLow _ BadBase _ (omega arith)
    (HasNumber-if IsLow _ Truncated None (omega arith) (HasNumber-none IsLow))))

in_order_low : (bytes : List ℕ) (found : Option Order) → HasNumber IsLow (fault_in_order found bytes)
in_order_low bytes None = HasNumber-some IsLow BadVersion (omega arith)
in_order_low bytes (Some order) = header_fault_low (header_of order bytes) (length bytes)

header_bytes_fault_low : (bytes : List ℕ) → HasNumber IsLow (header_bytes_fault bytes)
header_bytes_fault_low bytes = HasNumber-if IsLow _ TooShort _ (omega arith) (in_order_low bytes (order_of bytes))

pub file_fault_low : (file : List ℕ) → HasNumber IsLow (file_fault file)
file_fault_low file = header_bytes_fault_low (image_bytes file)
