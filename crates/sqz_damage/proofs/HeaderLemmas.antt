-- The header of a file is that of another one that begins with the same bytes.
-- Serves `restored`.
use Rattle.std.proofs.Common.{◌≡◌, ℕ, ◌+◌, ◌≤◌, Bool, true, false, ◌&&◌, cond, leb, List, ◌++◌, length, take, drop}
use Rattle.std.proofs.Common.{Option, Some, None, is_some, refl, sym, ap, ◌∙◌, arith}
use Rattle.std.proofs.lemmas.Bool.{le-leb}
use Rattle.std.proofs.lemmas.List.{length-append, length-drop, take-append-le, drop-append-le}
use Rattle.std.proofs.lemmas.Option.{none-some}
use Rattle.sqz_object.specs.declared.order.Order.{Order}
use Rattle.sqz_object.specs.Bytes.{words_of}
use Rattle.sqz_image.specs.declared.header.Header.{Header}
use Rattle.sqz_image.specs.File.{IsHeader, order_of, prefix_size, header_size, header_offset, has_version_behind, image_bytes}
use Rattle.sqz_image.proofs.SavedLemmas.{order_of-append}

-- the offset of a header, by the order in which the file begins, and whether the version follows a
-- prefix
abbrev offset_by : Option Order → Bool → ℕ
offset_by at_front behind = cond (is_some at_front) 0 (cond behind prefix_size 0)

module _ (front one other : List ℕ) (order : Order) (long : header_offset (front ++ one) + header_size ≤ length front)
    (begins : order_of (image_bytes (front ++ one)) ≡ Some order) where
  order_by_front : (rest : List ℕ) → order_of (front ++ rest) ≡ order_of front
  order_by_front rest = order_of-append front rest (omega arith)

  -- the version after a prefix is in the front
  version_by_front : (rest : List ℕ) → prefix_size + header_size ≤ length front
      → has_version_behind (front ++ rest) ≡ is_some (order_of (drop prefix_size front))
  version_by_front rest enough =
      let longer : leb (prefix_size + 4) (length (front ++ rest)) ≡ true =
      le-leb _ _ (omega (arith, length-append front rest)) in
      ap (λ (b : Bool). b && is_some (order_of (drop prefix_size (front ++ rest)))) longer
      ∙ ap (λ (bytes : List ℕ). is_some (order_of bytes)) (drop-append-le prefix_size front rest (omega arith))
      ∙ ap is_some (order_of-append (drop prefix_size front) rest (omega (arith, length-drop prefix_size front)))

  offset_is : (rest : List ℕ) (found : Option Order) → order_of front ≡ found → (behind : Bool)
      → has_version_behind (front ++ rest) ≡ behind → header_offset (front ++ rest) ≡ offset_by found behind
  offset_is rest found is behind there =
      ap (λ (it : Option Order). offset_by it (has_version_behind (front ++ rest))) (order_by_front rest ∙ is)
      ∙ ap (λ (it : Bool). offset_by found it) there

  -- the header is at the same offset
  same_offset : header_offset (front ++ other) ≡ header_offset (front ++ one)
  same_offset = by_tests (order_of front) refl (has_version_behind (front ++ one)) refl
    where
      by_tests : (found : Option Order) → order_of front ≡ found → (behind : Bool) → has_version_behind (front ++ one) ≡ behind
          → header_offset (front ++ other) ≡ header_offset (front ++ one)
      by_tests (Some at_front) is behind there =
          offset_is other (Some at_front) is (has_version_behind (front ++ other)) refl
          ∙ sym (offset_is one (Some at_front) is behind there)
      by_tests None is true there =
          let here : header_offset (front ++ one) ≡ prefix_size = offset_is one None is true there in
          let enough : prefix_size + header_size ≤ length front = omega (arith, here) in
          offset_is other None is true (version_by_front other enough ∙ sym (version_by_front one enough) ∙ there) ∙ sym here
      by_tests None is false there =
          let here : header_offset (front ++ one) ≡ 0 = offset_is one None is false there in
          let whole : image_bytes (front ++ one) ≡ front ++ one = ap (λ (n : ℕ). drop n (front ++ one)) here in
          absurd (none-some order (sym is ∙ sym (order_by_front one) ∙ ap order_of (sym whole) ∙ begins))

  -- the bytes of the image begin with the same ones
  image_by_front : (rest : List ℕ) → header_offset (front ++ rest) ≡ header_offset (front ++ one)
      → image_bytes (front ++ rest) ≡ drop (header_offset (front ++ one)) front ++ rest
  image_by_front rest is =
      ap (λ (n : ℕ). drop n (front ++ rest)) is
      ∙ drop-append-le (header_offset (front ++ one)) front rest (omega arith)

  pub IsHeader-other : (header : Header) → header.order ≡ order → IsHeader (front ++ one) header → IsHeader (front ++ other) header
  IsHeader-other header its is =
      let offset = header_offset (front ++ one) in
      let body = drop offset front in
      let room : header_size ≤ length body = omega (arith, length-drop offset front) in
      let there = image_by_front other same_offset in
      let here = image_by_front one refl in
      record {
        long = omega (arith, ap (length {A = ℕ}) there, length-append body other);
        offset = is.offset ∙ sym same_offset;
        order =
            ap order_of there ∙ order_of-append body other (omega arith)
            ∙ sym (order_of-append body one (omega arith)) ∙ ap order_of (sym here) ∙ is.order;
        words =
            is.words
            ∙ ap (λ (bytes : List ℕ). words_of header.order (take header_size bytes)) here
            ∙ ap (words_of header.order) (take-append-le header_size body one room)
            ∙ sym (ap (words_of header.order) (take-append-le header_size body other room))
            ∙ sym (ap (λ (bytes : List ℕ). words_of header.order (take header_size bytes)) there);
      }
