-- Images whose header and data agree: a file of bytes holds such an image, and the image's own
-- file holds it.
-- Serves `FixedPointLemmas` of `sqz_tool`.
use Rattle.std.proofs.Common.{◌≡◌, ◌⊎◌, ℕ, ◌+◌, ◌*◌, ◌/◌, ◌%◌, ◌^◌, ◌<◌, ◌≤◌, Bool, true, false, not, ◌||◌}
use Rattle.std.proofs.Common.{cond, eqb, ltb, List, [], ◌∷◌, ◌++◌, length, take, drop, slice_index, Option, Some, None, refl}
use Rattle.std.proofs.Common.{sym, ap, subst, ◌∙◌, arith, inl, inr, is_some}
use Rattle.std.specs.List.{concat, AllByRecursion}
use Rattle.std.proofs.lemmas.Option.{none-some}
use Rattle.std.proofs.lemmas.Bool.{eqb-true, leb-true, eq-eqb, le-ltb, le-leb, and_from, and_parts}
use Rattle.std.proofs.lemmas.List.{length-append, length-drop, length-take-le, take_at, drop_at, take_all}
use Rattle.std.proofs.lemmas.List.{get_or_append_left}
use Rattle.byteorder.specs.Numbers.{little_from-append, big_from-append, little_from-take, big_from-take}
use Rattle.sqz_object.specs.declared.order.Order.{Order}
use Rattle.sqz_object.specs.declared.order.Order.TheVariants.{Little, Big}
use Rattle.sqz_object.specs.Bytes.{number_of, bytes_of, words_of, spelling_of}
use Rattle.sqz_object.specs.Chunk.{IsChunk}
use Rattle.sqz_object.specs.Partition.{IsPartition}
use Rattle.sqz_object.proofs.WordLemmas.{length-words_of, words_of-lt, words_of-at, length-spelling_of, spelling_of-append}
use Rattle.sqz_object.proofs.WordLemmas.{words_of-spelling_of}
use Rattle.sqz_image.specs.declared.fault.Fault.{Fault}
use Rattle.sqz_image.specs.declared.fault.Fault.TheVariants.{TooShort, BadHeaderSize, BadDataSize}
use Rattle.sqz_image.specs.declared.fault.Fault.TheVariants.{BadBase, Truncated}
use Rattle.sqz_image.specs.File.{AreBytes, version as the_version, header_size as size_of_header, data_size as stated_data_size}
use Rattle.sqz_image.specs.File.{order_of, prefix_size, has_version_behind, header_offset, prefix_of, image_bytes, header_of}
use Rattle.sqz_image.specs.File.{stated_header_size, base_address, special_address, data_of}
use Rattle.sqz_image.specs.Objects.{SavedImage, file_bytes}
use Rattle.sqz_image.specs.Refusals.{header_fault, fault_in_order, header_bytes_fault, HasChunks}
use Rattle.sqz_image.proofs.ReadingLemmas.{front_fits, IsSoundHeader, sound_header, rest_fits, data_is}

-- what may stand before a header: nothing, or a prefix that does not begin with the version
abbrev pub IsPrefix : List ℕ → Type 0
IsPrefix prefix = (prefix ≡ []) ⊎ ((length prefix ≡ prefix_size) × (order_of prefix ≡ None))

-- an image whose header and data agree, so that it can be read back
pub record IsSaved (image : SavedImage) : Type 0 where
  pub prefix : IsPrefix image.prefix
  pub sized : length image.header ≡ 16
  pub header_words : (i : ℕ) → slice_index image.header i < 2 ^ 32
  pub version : slice_index image.header 0 ≡ the_version
  pub header_size : stated_header_size image.header ≡ size_of_header
  pub data_size : stated_data_size image.header ≡ 4 * length (concat image.memory.chunks)
  pub base : image.memory.base ≡ base_address image.header
  pub special : image.memory.special ≡ special_address image.header
  pub aligned : image.memory.base % 4 ≡ 0
  pub within : image.memory.base + 4 * length (concat image.memory.chunks) ≤ 2 ^ 32
  pub data_words : (i : ℕ) → slice_index (concat image.memory.chunks) i < 2 ^ 32
  pub chunks : AllByRecursion IsChunk image.memory.chunks

-- ---- the order in which bytes begin with the version

-- the order, by the two numbers that the bytes may spell
abbrev order_by : ℕ → ℕ → Option Order
order_by little big = cond (eqb little the_version) (Some Little) (cond (eqb big the_version) (Some Big) None)

-- bytes that spell the same numbers begin in the same order
same_order : (bytes others : List ℕ)
    → number_of Little bytes ≡ number_of Little others → number_of Big bytes ≡ number_of Big others
    → order_of bytes ≡ order_of others
same_order bytes others little big =
    ap (λ (n : ℕ). order_by n (number_of Big bytes)) little ∙ ap (λ (n : ℕ). order_by (number_of Little others) n) big

-- the first four bytes tell it
pub order_of-append : (bytes rest : List ℕ) → 4 ≤ length bytes → order_of (bytes ++ rest) ≡ order_of bytes
order_of-append bytes rest le =
    same_order (bytes ++ rest) bytes (little_from-append 4 bytes rest le) (big_from-append 4 bytes rest le)

-- a front of four bytes or more spells the same word
number_of-take : (order : Order) (count : ℕ) (bytes : List ℕ) → 4 ≤ count
    → number_of order (take count bytes) ≡ number_of order bytes
number_of-take Little count bytes le = little_from-take 0 4 count bytes (omega arith)
number_of-take Big count bytes le = big_from-take 0 4 count bytes (omega arith)

-- and begins in the same order
order_of-take : (count : ℕ) (bytes : List ℕ) → 4 ≤ count → order_of (take count bytes) ≡ order_of bytes
order_of-take count bytes le =
    same_order (take count bytes) bytes (number_of-take Little count bytes le) (number_of-take Big count bytes le)

-- bytes of the version begin with it
order_of-version : (order : Order) (rest : List ℕ) → order_of (bytes_of order the_version ++ rest) ≡ Some order
order_of-version Little rest = refl
order_of-version Big rest = refl

-- and so do words that begin with it
order_of-spelling_of : (order : Order) (words : List ℕ)
    → slice_index words 0 ≡ the_version → order_of (spelling_of order words) ≡ Some order
order_of-spelling_of order [] is = absurd (omega (arith, is))
order_of-spelling_of order (word ∷ words) is =
    ap (λ (w : ℕ). order_of (bytes_of order w ++ spelling_of order words)) is
    ∙ order_of-version order (spelling_of order words)

-- in this order they spell it
version_in_order : (order : Order) (bytes : List ℕ) → order_of bytes ≡ Some order → number_of order bytes ≡ the_version
version_in_order order bytes is =
    by_tests (eqb (number_of Little bytes) the_version) (eqb (number_of Big bytes) the_version) refl refl order is
  where
    by_tests : (little big : Bool)
        → eqb (number_of Little bytes) the_version ≡ little → eqb (number_of Big bytes) the_version ≡ big → (its : Order)
        → cond little (Some Little) (cond big (Some Big) None) ≡ Some its → number_of its bytes ≡ the_version
    by_tests true big e f Little found = eqb-true _ _ e
    by_tests true big e f Big found = absurd cc
    by_tests false true e f Little found = absurd cc
    by_tests false true e f Big found = eqb-true _ _ f
    by_tests false false e f its found = absurd (none-some its found)

-- ---- where a header stands

-- at the front, where the file begins with the version
offset_at_front : (file : List ℕ) (order : Order) → order_of file ≡ Some order → header_offset file ≡ 0
offset_at_front file order is =
    ap (λ (found : Option Order). cond (is_some found) 0 (cond (has_version_behind file) prefix_size 0)) is

-- and behind a prefix, where the version stands there
offset_behind : (file : List ℕ) → order_of file ≡ None → has_version_behind file ≡ true → header_offset file ≡ prefix_size
offset_behind file none behind =
    ap (λ (found : Option Order). cond (is_some found) 0 (cond (has_version_behind file) prefix_size 0)) none
    ∙ ap (λ (test : Bool). cond test prefix_size 0) behind

-- a prefix, and then bytes that begin with the version
module _ (prefix body : List ℕ) (order : Order) (long : 4 ≤ length body) (begins : order_of body ≡ Some order) where
  -- the version stands behind a whole prefix
  behind_prefix : length prefix ≡ prefix_size → has_version_behind (prefix ++ body) ≡ true
  behind_prefix sized =
      and_from _ _ (le-leb _ _ (omega (arith, length-append prefix body)))
      (ap (λ (bytes : List ℕ). is_some (order_of bytes)) (drop_at prefix body prefix_size sized)
      ∙ ap (λ (found : Option Order). is_some found) begins)

  -- so the header begins after the prefix
  offset_of : IsPrefix prefix → header_offset (prefix ++ body) ≡ length prefix
  offset_of (inl none) =
      subst (λ (bytes : List ℕ). header_offset (bytes ++ body) ≡ length bytes) (sym none) (offset_at_front body order begins)
  offset_of (inr (sized, lacks)) =
      offset_behind (prefix ++ body) (order_of-append prefix body (omega arith) ∙ lacks) (behind_prefix sized) ∙ sym sized

  -- and is found there, with the prefix before it
  prefix_there : IsPrefix prefix → prefix_of (prefix ++ body) ≡ prefix
  prefix_there is =
      ap (λ (count : ℕ). take count (prefix ++ body)) (offset_of is) ∙ take_at prefix body (length prefix) refl

  body_there : IsPrefix prefix → image_bytes (prefix ++ body) ≡ body
  body_there is =
      ap (λ (count : ℕ). drop count (prefix ++ body)) (offset_of is) ∙ drop_at prefix body (length prefix) refl

-- ---- the header and the words behind it

module _ (order : Order) (header words : List ℕ) (sized : length header ≡ 16)
    (header_fits : (i : ℕ) → slice_index header i < 2 ^ 32) where
  abbrev spelled : List ℕ
  spelled = spelling_of order (header ++ words)

  in_parts : spelled ≡ spelling_of order header ++ spelling_of order words
  in_parts = spelling_of-append order header words

  length_of_header : length (spelling_of order header) ≡ size_of_header
  length_of_header = length-spelling_of order header ∙ ap (λ (n : ℕ). 4 * n) sized

  length_spelled : length spelled ≡ 64 + 4 * length words
  length_spelled = omega (arith, length-spelling_of order (header ++ words), length-append header words)

  -- the bytes have this header
  header_there : header_of order spelled ≡ header
  header_there =
      ap (λ (bytes : List ℕ). words_of order (take size_of_header bytes)) in_parts
      ∙ ap (words_of order) (take_at (spelling_of order header) (spelling_of order words) size_of_header length_of_header)
      ∙ words_of-spelling_of order header header_fits

  -- and these words behind it
  data_there : ((i : ℕ) → slice_index words i < 2 ^ 32) → stated_data_size header ≡ 4 * length words
      → data_of order spelled ≡ words
  data_there fits size =
      let its = spelling_of order words in
      ap (λ (h : List ℕ). words_of order (take (stated_data_size h) (drop size_of_header spelled))) header_there
      ∙ ap (λ (bytes : List ℕ). words_of order (take (stated_data_size header) (drop size_of_header bytes))) in_parts
      ∙ ap (λ (bytes : List ℕ). words_of order (take (stated_data_size header) bytes))
      (drop_at (spelling_of order header) its size_of_header length_of_header)
      ∙ ap (words_of order) (take_all (stated_data_size header) its (omega (arith, length-spelling_of order words)))
      ∙ words_of-spelling_of order words fits

-- ---- nothing is wrong with the header

-- no test of the five refuses it
no_fault_by_tests : (size multiple aligned over room : Bool)
    → size ≡ true → multiple ≡ true → aligned ≡ true → over ≡ false → room ≡ false
    → cond (not size) (Some BadHeaderSize)
    (cond (not multiple) (Some BadDataSize)
    (cond (not aligned || over) (Some BadBase) (cond room (Some Truncated) None))) ≡ None
no_fault_by_tests size multiple aligned over room a b c d e = rw (a, b, c, d, e) refl

-- a sound header that states its size has no fault
header_fault-none : (header : List ℕ) (bytes : ℕ) → stated_header_size header ≡ size_of_header
    → IsSoundHeader header bytes → header_fault header bytes ≡ None
header_fault-none header bytes size sound =
    no_fault_by_tests
    (eqb (stated_header_size header) size_of_header)
    (eqb (stated_data_size header % 4) 0)
    (eqb (base_address header % 4) 0)
    (ltb (2 ^ 32) (base_address header + stated_data_size header))
    (ltb bytes (size_of_header + stated_data_size header))
    (eq-eqb _ _ size)
    (eq-eqb _ _ sound.multiple)
    (eq-eqb _ _ sound.aligned)
    (le-ltb _ _ sound.within)
    (le-ltb _ _ sound.room)

-- and neither have bytes that begin with it
header_bytes_fault-none : (bytes : List ℕ) (order : Order) (header : List ℕ) → size_of_header ≤ length bytes
    → order_of bytes ≡ Some order → header_of order bytes ≡ header → header_fault header (length bytes) ≡ None
    → header_bytes_fault bytes ≡ None
header_bytes_fault-none bytes order header long begins is none =
    ap (λ (test : Bool). cond test (Some TooShort) (fault_in_order (order_of bytes) bytes)) (le-ltb _ _ long)
    ∙ ap (λ (found : Option Order). fault_in_order found bytes) begins
    ∙ ap (λ (h : List ℕ). header_fault h (length bytes)) is
    ∙ none

-- ---- the file of an image

module _ (image : SavedImage) (saved : IsSaved image) where
  abbrev its_order : Order
  its_order = image.memory.order

  abbrev its_words : List ℕ
  its_words = concat image.memory.chunks

  abbrev its_body : List ℕ
  its_body = spelling_of its_order (image.header ++ its_words)

  body_length : length its_body ≡ 64 + 4 * length its_words
  body_length = length_spelled its_order image.header its_words saved.sized saved.header_words

  body_begins : order_of its_body ≡ Some its_order
  body_begins =
      let sized = saved.sized in
      order_of-spelling_of its_order (image.header ++ its_words)
      (get_or_append_left image.header its_words 0 0 (omega arith) ∙ saved.version)

  its_header : header_of its_order its_body ≡ image.header
  its_header = header_there its_order image.header its_words saved.sized saved.header_words

  its_data : data_of its_order its_body ≡ its_words
  its_data = data_there its_order image.header its_words saved.sized saved.header_words saved.data_words saved.data_size

  its_sound_header : IsSoundHeader image.header (length its_body)
  its_sound_header =
      let size = saved.data_size in
      let base = saved.base in
      let aligned = saved.aligned in
      let within = saved.within in
      let long = body_length in
      record {
        multiple = omega arith;
        aligned = omega arith;
        within = omega arith;
        room = omega arith;
      }

  body_sound : header_bytes_fault its_body ≡ None
  body_sound =
      header_bytes_fault-none its_body its_order image.header (omega (arith, body_length)) body_begins its_header
      (header_fault-none image.header (length its_body) saved.header_size its_sound_header)

  long_body : 4 ≤ length its_body
  long_body = omega (arith, body_length)

  its_prefix : prefix_of (file_bytes image) ≡ image.prefix
  its_prefix = prefix_there image.prefix its_body its_order long_body body_begins saved.prefix

  its_bytes : image_bytes (file_bytes image) ≡ its_body
  its_bytes = body_there image.prefix its_body its_order long_body body_begins saved.prefix

-- such an image's own file holds it
pub HasChunks-saved : (image : SavedImage) → IsSaved image → HasChunks (file_bytes image) image
HasChunks-saved image saved =
    let bytes = sym (its_bytes image saved) in
    let order = image.memory.order in
    record {
      sound = subst (λ (b : List ℕ). header_bytes_fault b ≡ None) bytes (body_sound image saved);
      prefix = sym (its_prefix image saved);
      order = subst (λ (b : List ℕ). order_of b ≡ Some order) bytes (body_begins image saved);
      header = subst (λ (b : List ℕ). image.header ≡ header_of order b) bytes (sym (its_header image saved));
      base = saved.base;
      special = saved.special;
      chunks =
          subst (λ (b : List ℕ). IsPartition (data_of order b) image.memory.chunks) bytes
          (record { each = saved.chunks; whole = sym (its_data image saved) });
    }

-- ---- what a file says

-- what stands before its header
IsPrefix-of : (file : List ℕ) → IsPrefix (prefix_of file)
IsPrefix-of file = by_order (order_of file) refl (has_version_behind file) refl
  where
    by_order : (found : Option Order) → order_of file ≡ found → (behind : Bool) → has_version_behind file ≡ behind
        → IsPrefix (take (cond (is_some found) 0 (cond behind prefix_size 0)) file)
    by_order (Some order) is behind test = inl refl
    by_order None is false test = inl refl
    by_order None is true test =
        let long : prefix_size + 4 ≤ length file = leb-true _ _ (and_parts _ _ test).0 in
        inr (length-take-le prefix_size file (omega arith), order_of-take prefix_size file (omega arith) ∙ is)

-- the size that a header with no fault states
header_size_stated : (header : List ℕ) (bytes : ℕ) → header_fault header bytes ≡ None
    → stated_header_size header ≡ size_of_header
header_size_stated header bytes sound = eqb-true _ _ (by_test (eqb (stated_header_size header) size_of_header) _ sound)
  where
    by_test : (test : Bool) (rest : Option Fault) → cond (not test) (Some BadHeaderSize) rest ≡ None → test ≡ true
    by_test true rest e = refl
    by_test false rest e = absurd (none-some BadHeaderSize (sym e))

-- bytes with no fault have a header with none
header_has_no_fault : (bytes : List ℕ) (order : Order)
    → header_bytes_fault bytes ≡ None → order_of bytes ≡ Some order → header_fault (header_of order bytes) (length bytes) ≡ None
header_has_no_fault bytes order sound begins =
    sym (ap (λ (found : Option Order). fault_in_order found bytes) begins)
    ∙ by_test (ltb (length bytes) size_of_header) (fault_in_order (order_of bytes) bytes) sound
  where
    by_test : (short : Bool) (rest : Option Fault) → cond short (Some TooShort) rest ≡ None → rest ≡ None
    by_test true rest e = absurd (none-some TooShort (sym e))
    by_test false rest e = e

-- the header that a file holds, and the words behind it
module _ (file : List ℕ) (image : SavedImage) (each : AreBytes file) (held : HasChunks file image) where
  abbrev held_bytes : List ℕ
  held_bytes = image_bytes file

  abbrev held_order : Order
  held_order = image.memory.order

  abbrev header_bytes : List ℕ
  header_bytes = take size_of_header held_bytes

  abbrev data_bytes : List ℕ
  data_bytes = take (stated_data_size image.header) (drop size_of_header held_bytes)

  held_fit : (i : ℕ) → slice_index held_bytes i < 256
  held_fit = rest_fits file (header_offset file) each

  sound_words : IsSoundHeader image.header (length held_bytes)
  sound_words =
      subst (λ (h : List ℕ). IsSoundHeader h (length held_bytes)) (sym held.header)
      (sound_header held_bytes held_order held.sound held.order)

  length_of_front : length header_bytes ≡ size_of_header
  length_of_front = let room = sound_words.room in length-take-le size_of_header held_bytes (omega arith)

  sixteen_words : length image.header ≡ 16
  sixteen_words =
      ap length held.header ∙ length-words_of held_order header_bytes ∙ ap (λ (n : ℕ). n / 4) length_of_front

  header_words_fit : (i : ℕ) → slice_index image.header i < 2 ^ 32
  header_words_fit i =
      subst (λ (h : List ℕ). slice_index h i < 2 ^ 32) (sym held.header)
      (words_of-lt held_order header_bytes (front_fits held_bytes size_of_header held_fit) i)

  has_version : slice_index image.header 0 ≡ the_version
  has_version =
      ap (λ (h : List ℕ). slice_index h 0) held.header
      ∙ words_of-at held_order header_bytes 0 (omega (arith, length_of_front))
      ∙ number_of-take held_order 4 header_bytes (omega arith)
      ∙ number_of-take held_order size_of_header held_bytes (omega arith)
      ∙ version_in_order held_order held_bytes held.order

  has_header_size : stated_header_size image.header ≡ size_of_header
  has_header_size =
      header_size_stated image.header (length held_bytes)
      (subst (λ (h : List ℕ). header_fault h (length held_bytes) ≡ None) (sym held.header)
      (header_has_no_fault held_bytes held_order held.sound held.order))

  spelled_data : words_of held_order data_bytes ≡ concat image.memory.chunks
  spelled_data = data_is held_bytes image.header held_order held.sound held.order held.header ∙ sym held.chunks.whole

  has_data_size : stated_data_size image.header ≡ 4 * length (concat image.memory.chunks)
  has_data_size =
      let room = sound_words.room in
      let multiple = sound_words.multiple in
      let size : length data_bytes ≡ stated_data_size image.header =
      length-take-le (stated_data_size image.header) (drop size_of_header held_bytes)
      (omega (arith, length-drop size_of_header held_bytes)) in
      omega (arith, ap length spelled_data, length-words_of held_order data_bytes, size)

  data_words_fit : (i : ℕ) → slice_index (concat image.memory.chunks) i < 2 ^ 32
  data_words_fit i =
      subst (λ (ws : List ℕ). slice_index ws i < 2 ^ 32) spelled_data
      (words_of-lt held_order data_bytes (front_fits _ _ (rest_fits held_bytes size_of_header held_fit)) i)

  is_saved : IsSaved image
  is_saved =
      let data_size = has_data_size in
      let base = held.base in
      let aligned = sound_words.aligned in
      let within = sound_words.within in
      record {
        prefix = subst IsPrefix (sym held.prefix) (IsPrefix-of file);
        sized = sixteen_words;
        header_words = header_words_fit;
        version = has_version;
        header_size = has_header_size;
        data_size = data_size;
        base = base;
        special = held.special;
        aligned = omega arith;
        within = omega arith;
        data_words = data_words_fit;
        chunks = held.chunks.each;
      }

-- an image that a file of bytes holds is such a one
pub IsSaved-read : (file : List ℕ) (image : SavedImage) → AreBytes file
    → HasChunks file image → IsSaved image
IsSaved-read file image each held = is_saved file image each held
