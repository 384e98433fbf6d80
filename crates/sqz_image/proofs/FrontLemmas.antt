-- What the first bytes of a file say about its header, whatever follows.
-- Serves `header::Header::is_refused`.
use Rattle.std.proofs.Common.{◌≡◌, ℕ, ◌+◌, ◌≤◌, Bool, true, false, not, ◌&&◌, cond, eqb, leb, ltb, List, ◌++◌, length, drop}
use Rattle.std.proofs.Common.{Option, Some, None, is_some, sym, ap, ◌∙◌, arith, inl, inr, refl}
use Rattle.std.specs.Prelude.{IsTrue}
use Rattle.std.proofs.lemmas.List.{length-append, length-drop, take-append-le, drop-append-le}
use Rattle.std.proofs.lemmas.Bool.{le-leb, le-ltb}
use Rattle.std.proofs.lemmas.Option.{none-some}
use Rattle.sqz_object.specs.declared.order.Order.{Order}
use Rattle.sqz_object.specs.Bytes.{words_of}
use Rattle.sqz_image.specs.declared.fault.Fault.{Fault}
use Rattle.sqz_image.specs.declared.fault.Fault.TheVariants.{TooShort, BadVersion, BadHeaderSize, BadDataSize, BadBase, Truncated}
use Rattle.sqz_image.specs.declared.header.Header.{Header}
use Rattle.sqz_image.specs.File.{IsHeader, HasNoHeader, order_of, prefix_size, header_size, header_offset, has_version_behind, image_bytes, header_of}
use Rattle.sqz_image.specs.File.{stated_header_size}
use Rattle.sqz_image.specs.Refusals.{words_fault, header_fault, fault_in_order, file_fault}
use Rattle.sqz_image.specs.Fronts.{BeginsNoImage}
use Rattle.sqz_image.proofs.SavedLemmas.{order_of-append}

-- the offset of a header, by whether the version is at the front and after a prefix
abbrev offset_by : Bool → Bool → ℕ
offset_by at_front behind = cond at_front 0 (cond behind prefix_size 0)

offset_by-le : (at_front behind : Bool) → offset_by at_front behind ≤ prefix_size
offset_by-le true behind = omega arith
offset_by-le false true = omega arith
offset_by-le false false = omega arith

pub header_offset-le : (file : List ℕ) → header_offset file ≤ prefix_size
header_offset-le file = offset_by-le (is_some (order_of file)) (has_version_behind file)

-- a fault of the header words is that of the header, whatever follows it
header_fault-words : (header : List ℕ) (bytes : ℕ) (fault : Fault)
    → words_fault header ≡ Some fault → header_fault header bytes ≡ Some fault
header_fault-words header bytes fault =
    by_tests (not (eqb (stated_header_size header) header_size)) _ _ _
  where
    by_tests : (size whole base truncated : Bool)
        → cond size (Some BadHeaderSize) (cond whole (Some BadDataSize) (cond base (Some BadBase) None)) ≡ Some fault
        → cond size (Some BadHeaderSize) (cond whole (Some BadDataSize) (cond base (Some BadBase) (cond truncated (Some Truncated) None)))
        ≡ Some fault
    by_tests true whole base truncated e = e
    by_tests false true base truncated e = e
    by_tests false false true truncated e = e
    by_tests false false false truncated e = absurd (none-some fault e)

module _ (front rest : List ℕ) (long : prefix_size + header_size ≤ length front) where
  order_stays : order_of (front ++ rest) ≡ order_of front
  order_stays = order_of-append front rest (omega arith)

  order_behind_stays : order_of (drop prefix_size (front ++ rest)) ≡ order_of (drop prefix_size front)
  order_behind_stays =
      ap order_of (drop-append-le prefix_size front rest (omega arith))
      ∙ order_of-append (drop prefix_size front) rest (omega (arith, length-drop prefix_size front))

  version_stays : has_version_behind (front ++ rest) ≡ has_version_behind front
  version_stays =
      let longer : leb (prefix_size + 4) (length (front ++ rest)) ≡ true = le-leb _ _ (omega (arith, length-append front rest)) in
      let enough : leb (prefix_size + 4) (length front) ≡ true = le-leb _ _ (omega arith) in
      ap (λ (found : Bool). found && is_some (order_of (drop prefix_size (front ++ rest)))) longer
      ∙ ap is_some order_behind_stays
      ∙ sym (ap (λ (found : Bool). found && is_some (order_of (drop prefix_size front))) enough)

  offset_stays : header_offset (front ++ rest) ≡ header_offset front
  offset_stays =
      ap (λ (found : Option Order). offset_by (is_some found) (has_version_behind (front ++ rest))) order_stays
      ∙ ap (λ (behind : Bool). offset_by (is_some (order_of front)) behind) version_stays

  -- the bytes from the header on are those that were read, and what follows them
  image_bytes-append : image_bytes (front ++ rest) ≡ image_bytes front ++ rest
  image_bytes-append =
      ap (λ (offset : ℕ). drop offset (front ++ rest)) offset_stays
      ∙ drop-append-le (header_offset front) front rest (omega (arith, header_offset-le front))

  header_is_there : header_size ≤ length (image_bytes front)
  header_is_there = omega (arith, length-drop (header_offset front) front, header_offset-le front)

  order_of_header_stays : order_of (image_bytes (front ++ rest)) ≡ order_of (image_bytes front)
  order_of_header_stays =
      ap order_of image_bytes-append ∙ order_of-append (image_bytes front) rest (omega (arith, header_is_there))

  -- the fault is found in the order in which the file begins
  fault_in_order_stays : file_fault (front ++ rest) ≡ fault_in_order (order_of (image_bytes front)) (image_bytes (front ++ rest))
  fault_in_order_stays =
      let enough : ltb (length (image_bytes (front ++ rest))) header_size ≡ false =
      le-ltb _ _ (omega (arith, header_is_there, ap (length {A = ℕ}) image_bytes-append, length-append (image_bytes front) rest)) in
      ap (λ (short : Bool). cond short (Some TooShort)
      (fault_in_order (order_of (image_bytes (front ++ rest))) (image_bytes (front ++ rest)))) enough
      ∙ ap (λ (found : Option Order). fault_in_order found (image_bytes (front ++ rest))) order_of_header_stays

  header_of_stays : (order : Order) → header_of order (image_bytes (front ++ rest)) ≡ header_of order (image_bytes front)
  header_of_stays order =
      ap (λ (bytes : List ℕ). header_of order bytes) image_bytes-append
      ∙ ap (words_of order) (take-append-le header_size (image_bytes front) rest header_is_there)

-- a version that is not supported
pub BeginsNoImage-no_header : (front : List ℕ) → prefix_size + header_size ≤ length front → HasNoHeader front → BeginsNoImage front
BeginsNoImage-no_header front long (inl short) = absurd (omega (arith, header_is_there front front long, short))
BeginsNoImage-no_header front long (inr none) = record {
  fault = BadVersion;
  always = λ rest. fault_in_order_stays front rest long
      ∙ ap (λ (found : Option Order). fault_in_order found (image_bytes (front ++ rest))) none;
}

-- header words with a fault
pub BeginsNoImage-words_fault : (front : List ℕ) (header : Header) → prefix_size + header_size ≤ length front
    → IsHeader front header → IsTrue (is_some (words_fault header.words)) → BeginsNoImage front
BeginsNoImage-words_fault front header long is some = by_fault (words_fault header.words) refl some
  where
    by_fault : (found : Option Fault) → words_fault header.words ≡ found → IsTrue (is_some found) → BeginsNoImage front
    by_fault None e some = absurd cc
    by_fault (Some fault) e some = record {
      fault = fault;
      always = λ rest. fault_in_order_stays front rest long
          ∙ ap (λ (found : Option Order). fault_in_order found (image_bytes (front ++ rest))) is.order
          ∙ header_fault-words (header_of header.order (image_bytes (front ++ rest))) (length (image_bytes (front ++ rest))) fault
          (ap words_fault (header_of_stays front rest long header.order ∙ sym is.words) ∙ e);
    }
