-- Words whose gaps are filled.
-- Serves `filling` and `laws`.
use Rattle.std.proofs.Common.{◌≡◌, ℕ, zero, suc, ◌+◌, ◌-◌, ◌*◌, ◌^◌, ◌<◌, ◌≤◌, List, [], ◌∷◌, ◌++◌, map, length, take, drop, set, get_or}
use Rattle.std.proofs.Common.{refl, sym, ap, ◌∙◌, arith}
use Rattle.std.specs.List.{concat, AllByRecursion}
use Rattle.std.proofs.lemmas.List.{take_more, length-append, append_assoc, set-append_left, set-append_right, length-set, drop-drop}
use borrow.Rule.Slice.PartMut.{put_mid}
use Rattle.sqz_object.specs.declared.order.Order.{Order}
use Rattle.sqz_object.specs.declared.chunk.Kind.TheVariants.{Free}
use Rattle.sqz_object.specs.Bytes.{bytes_of, words_of}
use Rattle.sqz_object.specs.Chunk.{IsChunk}
use Rattle.sqz_object.specs.Partition.{IsPartition}
use Rattle.sqz_object.proofs.WordLemmas.{words_of-bytes_of}
use Rattle.sqz_damage.specs.declared.gap.Gap.{Gap}
use Rattle.sqz_damage.specs.Readings.{Part, Chunk, Skipped, part_words, IsPart, gaps_among, AreBestGaps}
use Rattle.sqz_damage.specs.Filled.{AreGapsIn, free_header, filled, filled_part}

-- ---- a word among bytes

-- the bytes of a word in place of those of word `k`
pub words_of-set : (order : Order) (bytes : List ℕ) (k word : ℕ) → 4 * k + 4 ≤ length bytes → word < 2 ^ 32
    → words_of order (take (4 * k) bytes ++ (bytes_of order word ++ drop (4 * k + 4) bytes)) ≡ set (words_of order bytes) k word
words_of-set order (a ∷ b ∷ c ∷ d ∷ rest) zero word le lt = words_of-bytes_of order word rest lt
words_of-set order (a ∷ b ∷ c ∷ d ∷ rest) (suc k) word le lt =
    let more : 4 * suc k ≡ suc (suc (suc (suc (4 * k)))) = omega arith in
    let end : 4 * suc k + 4 ≡ suc (suc (suc (suc (4 * k + 4)))) = omega arith in
    rw (end, more)
    (ap (λ (words : List ℕ). get_or (words_of order (a ∷ b ∷ c ∷ d ∷ [])) 0 0 ∷ words)
    (words_of-set order rest k word (omega arith) lt))
words_of-set order [] k word le lt = absurd (omega arith)
words_of-set order (a ∷ []) k word le lt = absurd (omega arith)
words_of-set order (a ∷ b ∷ []) k word le lt = absurd (omega arith)
words_of-set order (a ∷ b ∷ c ∷ []) k word le lt = absurd (omega arith)

-- bytes of a word that are written into their place
pub words_of-put_mid : (order : Order) (bytes four : List ℕ) (k room word : ℕ) → 4 * k + 4 ≤ length bytes → word < 2 ^ 32
    → four ≡ bytes_of order word → room ≡ 4 → words_of order (put_mid (4 * k) room bytes four) ≡ set (words_of order bytes) k word
words_of-put_mid order bytes four k room word le lt is size =
    let after : drop room (drop (4 * k) bytes) ≡ drop (4 * k + 4) bytes =
    ap (λ (n : ℕ). drop n (drop (4 * k) bytes)) size ∙ drop-drop 4 (4 * k) bytes in
    ap (λ (ws : List ℕ). words_of order (take (4 * k) bytes ++ (four ++ ws))) after
    ∙ ap (λ (ws : List ℕ). words_of order (take (4 * k) bytes ++ (ws ++ drop (4 * k + 4) bytes))) is
    ∙ words_of-set order bytes k word le lt

-- ---- gaps one by one

-- one gap more
pub filled-push : (words : List ℕ) (gaps : List Gap) (gap : Gap)
    → filled words (gaps ++ gap ∷ []) ≡ set (filled words gaps) gap.first (free_header gap.words)
filled-push words [] gap = refl
filled-push words (one ∷ gaps) gap = filled-push (set words one.first (free_header one.words)) gaps gap

-- the words with the first gaps filled
pub filled-take : (words : List ℕ) (gaps : List Gap) (i : ℕ) (none : Gap) → i < length gaps
    → filled words (take (i + 1) gaps)
    ≡ set (filled words (take i gaps)) (get_or gaps i none).first (free_header (get_or gaps i none).words)
filled-take words gaps i none lt =
    ap (filled words) (take_more gaps i none lt) ∙ filled-push words (take i gaps) (get_or gaps i none)

-- each gap lies inside the words
pub gap_inside : (first count : ℕ) (gaps : List Gap) (i : ℕ) (none : Gap) → AreGapsIn first count gaps → i < length gaps
    → (0 < (get_or gaps i none).words) × ((get_or gaps i none).first + (get_or gaps i none).words ≤ count)
gap_inside first count [] i none are lt = absurd (omega arith)
gap_inside first count (gap ∷ gaps) zero none are lt = (are.1, are.2)
gap_inside first count (gap ∷ gaps) (suc i) none are lt =
    gap_inside (gap.first + gap.words) count gaps i none are.3 (omega arith)

-- ---- the gaps of a reading

AreGapsIn-lower : (first after count : ℕ) (gaps : List Gap) → first ≤ after → AreGapsIn after count gaps
    → AreGapsIn first count gaps
AreGapsIn-lower first after count [] le are = tt
AreGapsIn-lower first after count (gap ∷ gaps) le are = (omega (arith, are.0), are.1, are.2, are.3)

-- they lie inside its words
AreGapsIn-among : (first count : ℕ) (parts : List Part) → AllByRecursion IsPart parts
    → first + length (concat (map part_words parts)) ≤ count → AreGapsIn first count (gaps_among first parts)
AreGapsIn-among first count [] each le = tt
AreGapsIn-among first count (Chunk chunk ∷ parts) each le =
    AreGapsIn-lower first (first + length chunk) count (gaps_among (first + length chunk) parts) (omega arith)
    (AreGapsIn-among (first + length chunk) count parts each.1
    (omega (arith, length-append chunk (concat (map part_words parts)))))
AreGapsIn-among first count (Skipped run ∷ parts) each le = (
  omega arith,
  each.0,
  omega (arith, length-append run (concat (map part_words parts))),
  AreGapsIn-among (first + length run) count parts each.1
      (omega (arith, length-append run (concat (map part_words parts)))),
)

-- they fill its parts
filled-among : (front : List ℕ) (parts : List Part) → AllByRecursion IsPart parts
    → filled (front ++ concat (map part_words parts)) (gaps_among (length front) parts)
    ≡ front ++ concat (map filled_part parts)
filled-among front [] each = refl
filled-among front (Chunk chunk ∷ parts) each =
    let rest = concat (map part_words parts) in
    let long : length (front ++ chunk) ≡ length front + length chunk = length-append front chunk in
    ap (λ (n : ℕ). filled (front ++ (chunk ++ rest)) (gaps_among n parts)) (sym long)
    ∙ ap (λ (ws : List ℕ). filled ws (gaps_among (length (front ++ chunk)) parts)) (sym (append_assoc front chunk rest))
    ∙ filled-among (front ++ chunk) parts each.1
    ∙ append_assoc front chunk (concat (map filled_part parts))
filled-among front (Skipped run ∷ parts) each =
    let rest = concat (map part_words parts) in
    let header = free_header (length run) in
    let full = set run 0 header in
    let none : length front - length front ≡ 0 = omega arith in
    let here : set (front ++ (run ++ rest)) (length front) header ≡ (front ++ full) ++ rest =
    set-append_right front (run ++ rest) (length front) (length front) header refl (omega arith)
    ∙ ap (λ (n : ℕ). front ++ set (run ++ rest) n header) none
    ∙ ap (λ (ws : List ℕ). front ++ ws) (set-append_left run rest 0 header each.0)
    ∙ sym (append_assoc front full rest)
    in
    let long : length (front ++ full) ≡ length front + length run =
    omega (arith, length-append front full, length-set run 0 header) in
    ap (λ (n : ℕ). filled (set (front ++ (run ++ rest)) (length front) header) (gaps_among n parts)) (sym long)
    ∙ ap (λ (ws : List ℕ). filled ws (gaps_among (length (front ++ full)) parts)) here
    ∙ filled-among (front ++ full) parts each.1
    ∙ append_assoc front full (concat (map filled_part parts))

-- each becomes a chunk
chunks_of_parts : (parts : List Part) → AllByRecursion IsPart parts → AllByRecursion IsChunk (map filled_part parts)
chunks_of_parts [] each = tt
chunks_of_parts (Chunk chunk ∷ parts) each = (each.0, chunks_of_parts parts each.1)
chunks_of_parts (Skipped [] ∷ parts) each = let some = each.0 in absurd (omega arith)
chunks_of_parts (Skipped (word ∷ run) ∷ parts) each =
    ((Free, (omega arith, omega arith)), chunks_of_parts parts each.1)

-- ---- the best gaps

module _ (base : ℕ) (words : List ℕ) (gaps : List Gap) (best : AreBestGaps base words gaps) where
  pub AreGapsIn-best : AreGapsIn 0 (length words) gaps
  AreGapsIn-best =
      rw best.gaps_are at (AreGapsIn-among 0 (length words) best.third best.third_best.reading.each
      (let long = ap length best.third_best.reading.whole in omega arith))

  pub IsPartition-filled : IsPartition (filled words gaps) (map filled_part best.third)
  IsPartition-filled =
      record {
        each = chunks_of_parts best.third best.third_best.reading.each;
        whole =
            sym (filled-among [] best.third best.third_best.reading.each)
            ∙ ap (λ (ws : List ℕ). filled ws (gaps_among 0 best.third)) best.third_best.reading.whole
            ∙ ap (filled words) best.gaps_are;
      }
