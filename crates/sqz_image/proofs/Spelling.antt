-- Words and the bytes that encode them.
-- Serves `write_words::send_words`, `write_words::spell` and `write_words::write_words`;
-- `BytesLemmas` of `sqz_histogram`.
use Rattle.std.proofs.Common.{◌≡◌, ℕ, ◌+◌, ◌*◌, ◌<◌, ◌≤◌, List, [], ◌∷◌, ◌++◌, append-nil, length, take, drop}
use Rattle.std.proofs.Common.{get_or, map, Vec, Global, sym, ap, ◌∙◌, refl, arith}
use Rattle.std.specs.List.{concat}
use Rattle.std.proofs.lemmas.List.{take_more, drop_more}
use Rattle.std.proofs.lemmas.List.Concat.{flat_map-append}
use Rattle.std.proofs.lemmas.Slice.{take-put_mid}
use borrow.Rule.Slice.PartMut.{put_mid}
use Rattle.sqz_object.specs.declared.order.Order.{Order}
use Rattle.sqz_object.specs.Bytes.{bytes_of, spelling_of}

pub spelling_of-append : (order : Order) (front rest : List ℕ)
    → spelling_of order (front ++ rest) ≡ spelling_of order front ++ spelling_of order rest
spelling_of-append order front rest = flat_map-append (bytes_of order) front rest

-- one more word
pub spelling_of-take : (order : Order) (words : List ℕ) (k : ℕ) → k < length words
    → spelling_of order (take (k + 1) words) ≡ spelling_of order (take k words) ++ bytes_of order (get_or words k 0)
spelling_of-take order words k inside =
    ap (spelling_of order) (take_more words k 0 inside) ∙ spelling_of-append order (take k words) (get_or words k 0 ∷ [])
    ∙ ap (λ l. spelling_of order (take k words) ++ l) (append-nil (bytes_of order (get_or words k 0)))

-- a block spells words at its front, and then one more
pub take-put_word : (order : Order) (words block four : List ℕ) (k room : ℕ) → take (4 * k) block ≡ spelling_of order (take k words)
    → four ≡ bytes_of order (get_or words k 0) → length four ≡ 4 → k < length words → 4 * k ≤ length block
    → take (4 * (k + 1)) (put_mid (4 * k) room block four) ≡ spelling_of order (take (k + 1) words)
take-put_word order words block four k room so_far spelled size inside fits =
    take-put_mid (4 * k) room block four (4 * (k + 1)) (omega arith) fits ∙ ap (λ l. l ++ four) so_far
    ∙ ap (λ l. spelling_of order (take k words) ++ l) spelled ∙ sym (spelling_of-take order words k inside)

-- words in two parts, the first of which is encoded already
pub spelling_of-parts : (order : Order) (words front after spelled : List ℕ) → words ≡ front ++ after → spelled ≡ spelling_of order front
    → spelling_of order words ≡ spelled ++ spelling_of order after
spelling_of-parts order words front after spelled parts is_spelled =
    ap (spelling_of order) parts ∙ spelling_of-append order front after ∙ ap (λ l. l ++ spelling_of order after) (sym is_spelled)

-- the words of each piece, one piece after the other
abbrev pub piece_words : List (Vec ℕ Global) → List ℕ
piece_words pieces = concat (map (λ v. v.items) pieces)

-- from a place on: the piece there, and what follows it
pub spelling_of-piece_words : (order : Order) (pieces : List (Vec ℕ Global)) (k : ℕ) (piece : Vec ℕ Global) (words : List ℕ)
    → k < length pieces
    → piece ≡ get_or pieces k piece → words ≡ piece.items
    → spelling_of order (piece_words (drop k pieces)) ≡ spelling_of order words ++ spelling_of order (piece_words (drop (k + 1) pieces))
spelling_of-piece_words order pieces k piece words inside is_piece is_words =
    let after = piece_words (drop (k + 1) pieces) in
    let parts : piece_words (drop k pieces) ≡ words ++ after =
    ap piece_words (drop_more pieces k piece inside) ∙ ap (λ v. v.items ++ after) (sym is_piece) ∙ ap (λ l. l ++ after) (sym is_words) in
    spelling_of-parts order (piece_words (drop k pieces)) words after (spelling_of order words) parts refl
