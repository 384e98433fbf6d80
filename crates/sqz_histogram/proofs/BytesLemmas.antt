-- The first bytes that encode words.
-- Serves `bytes::bytes_in` and `bytes::first_bytes`.
use Rattle.std.proofs.Common.{◌≡◌, ℕ, ◌-◌, ◌*◌, ◌≤◌, min, List, length, take, drop, Some}
use Rattle.std.proofs.Common.{sym, ap, ◌∙◌, arith, inl, inr}
use Rattle.std.proofs.lemmas.List.{length-take, take-append-le, take-append-drop, take-take, take_all}
use Rattle.std.proofs.lemmas.Bool.{cases_lt}
use Rattle.sqz_object.specs.declared.order.Order.{Order}
use Rattle.sqz_object.specs.Bytes.{spelling_of}
use Rattle.sqz_object.specs.declared.layout.Layout.TheVariants.{Bytes}
use Rattle.sqz_object.proofs.WordLemmas.{length-spelling_of}
use Rattle.sqz_image.proofs.Spelling.{spelling_of-append}
use Rattle.sqz_histogram.specs.Bytes.{first_bytes_by}

-- the first bytes are among those of the first words
pub take-spelling_of : (order : Order) (words : List ℕ) (count most : ℕ) → count ≤ 4 * length words → count ≤ 4 * most
    → take count (spelling_of order (take (min (length words) most) words)) ≡ take count (spelling_of order words)
take-spelling_of order words count most inside few =
    let front = take (min (length words) most) words in
    let rest = drop (min (length words) most) words in
    let long = length-spelling_of order front in
    let size = length-take (min (length words) most) words in
    sym (take-append-le count (spelling_of order front) (spelling_of order rest) (omega arith))
    ∙ ap (take count) (sym (spelling_of-append order front rest))
    ∙ ap (λ words. take count (spelling_of order words)) (take-append-drop (min (length words) most) words)

-- the first of the first ones
take-min : (count most : ℕ) (bytes : List ℕ) → take (min count most) bytes ≡ take most (take count bytes)
take-min count most bytes =
    elim (cases_lt count most) [
      | inl lt ↦
          let fewer : min count most ≡ count = omega arith in
          let short = length-take count bytes in
          ap (λ (count : ℕ). take count bytes) fewer ∙ sym (take_all most (take count bytes) (omega arith))
      | inr le ↦
          let fewer : min count most ≡ most = omega arith in
          ap (λ (count : ℕ). take count bytes) fewer ∙ sym (take-take most count bytes le)
    ]

-- the first bytes in fields of bytes
pub first_bytes_by-bytes : (order : Order) (unused most count : ℕ) (words fields bytes : List ℕ)
    → words ≡ fields → count ≡ min (4 * length words - unused) most
    → bytes ≡ take count (spelling_of order words)
    → Some bytes ≡ first_bytes_by order most (Bytes unused) fields
first_bytes_by-bytes order unused most count words fields bytes words_are count_is bytes_are =
    let room = λ (words : List ℕ). 4 * length words - unused in
    let count_here : count ≡ min (room fields) most = count_is ∙ (λ i. min (room (words_are i)) most) in
    let first = (λ i. take (count_here i) (spelling_of order (words_are i))) ∙ take-min (room fields) most (spelling_of order fields) in
    ap Some (bytes_are ∙ first)
