-- The words that bytes encode, one by one, and the bytes that encode words.
-- Serves `words::Words::of`; `header::header_words`, `ReadingLemmas` and `SavedLemmas` of
-- `sqz_image`; `BytesLemmas` of `sqz_histogram`; `words::bytes_match` of `sqz_alike`;
-- `FirstReferrerLemmas` of `sqz_facts`.
use Rattle.std.proofs.Common.{◌≡◌, ℕ, zero, suc, ◌+◌, ◌*◌, ◌/◌, ◌^◌, ◌<◌, ◌≤◌, List, [], ◌∷◌, ◌++◌, length}
use Rattle.std.proofs.Common.{map, take, drop, slice_index, refl, sym, ap, ◌∙◌, arith}
use Rattle.std.proofs.lemmas.List.{append_assoc, length-append}
use Rattle.std.specs.Simd.{first_chunks}
use Rattle.byteorder.specs.Numbers.{little_from-lt, big_from-lt, little_number-reads_back, big_number-reads_back}
use Rattle.sqz_object.specs.declared.order.Order.{Order}
use Rattle.sqz_object.specs.declared.order.Order.TheVariants.{Little, Big}
use Rattle.sqz_object.specs.Bytes.{number_of, bytes_of, words_of, spelling_of}

-- four bytes spell a word
pub length-words_of : (order : Order) (bytes : List ℕ) → length (words_of order bytes) ≡ length bytes / 4
length-words_of order (a ∷ b ∷ c ∷ d ∷ rest) = let e = length-words_of order rest in omega (arith, e)
length-words_of order [] = refl
length-words_of order (a ∷ []) = refl
length-words_of order (a ∷ b ∷ []) = refl
length-words_of order (a ∷ b ∷ c ∷ []) = refl

-- word k stands in the bytes from 4 * k on
pub words_of-at : (order : Order) (bytes : List ℕ) (k : ℕ)
    → 4 * k + 4 ≤ length bytes → slice_index (words_of order bytes) k ≡ number_of order (take 4 (drop (4 * k) bytes))
words_of-at order (a ∷ b ∷ c ∷ d ∷ rest) zero le = refl
words_of-at order (a ∷ b ∷ c ∷ d ∷ rest) (suc k) le =
    let more : 4 * suc k ≡ suc (suc (suc (suc (4 * k)))) = omega arith in
    rw more (words_of-at order rest k (omega arith))
words_of-at order [] k le = absurd (omega arith)
words_of-at order (a ∷ []) k le = absurd (omega arith)
words_of-at order (a ∷ b ∷ []) k le = absurd (omega arith)
words_of-at order (a ∷ b ∷ c ∷ []) k le = absurd (omega arith)

-- each chunk of four bytes spells one
pub words_of-chunks : (order : Order) (count : ℕ) (bytes : List ℕ)
    → length bytes / 4 ≡ count → map (number_of order) (first_chunks 4 count bytes) ≡ words_of order bytes
words_of-chunks order zero (a ∷ b ∷ c ∷ d ∷ rest) is = absurd (omega (arith, is))
words_of-chunks order (suc count) (a ∷ b ∷ c ∷ d ∷ rest) is =
    ap (λ (words : List ℕ). number_of order (a ∷ b ∷ c ∷ d ∷ []) ∷ words)
    (words_of-chunks order count rest (omega (arith, is)))
words_of-chunks order zero [] is = refl
words_of-chunks order zero (a ∷ []) is = refl
words_of-chunks order zero (a ∷ b ∷ []) is = refl
words_of-chunks order zero (a ∷ b ∷ c ∷ []) is = refl
words_of-chunks order (suc count) [] is = absurd (omega (arith, is))
words_of-chunks order (suc count) (a ∷ []) is = absurd (omega (arith, is))
words_of-chunks order (suc count) (a ∷ b ∷ []) is = absurd (omega (arith, is))
words_of-chunks order (suc count) (a ∷ b ∷ c ∷ []) is = absurd (omega (arith, is))

-- one word more at the end is four bytes more
pub spelling_of-append : (order : Order) (xs ys : List ℕ)
    → spelling_of order (xs ++ ys) ≡ spelling_of order xs ++ spelling_of order ys
spelling_of-append order [] ys = refl
spelling_of-append order (x ∷ xs) ys =
    ap (λ (t : List ℕ). bytes_of order x ++ t) (spelling_of-append order xs ys)
    ∙ sym (append_assoc (bytes_of order x) (spelling_of order xs) (spelling_of order ys))

-- ---- words are below 2 ^ 32

pub number_of-lt : (order : Order) (bytes : List ℕ)
    → ((i : ℕ) → slice_index bytes i < 256) → number_of order bytes < 2 ^ 32
number_of-lt Little bytes fits = little_from-lt 0 4 bytes fits
number_of-lt Big bytes fits = big_from-lt 0 4 bytes fits

four_fit : (a b c d : ℕ) (rest : List ℕ)
    → ((i : ℕ) → slice_index (a ∷ b ∷ c ∷ d ∷ rest) i < 256) → (i : ℕ) → slice_index (a ∷ b ∷ c ∷ d ∷ []) i < 256
four_fit a b c d rest fits zero = fits 0
four_fit a b c d rest fits (suc zero) = fits 1
four_fit a b c d rest fits (suc (suc zero)) = fits 2
four_fit a b c d rest fits (suc (suc (suc zero))) = fits 3
four_fit a b c d rest fits (suc (suc (suc (suc i)))) = omega arith

pub words_of-lt : (order : Order) (bytes : List ℕ)
    → ((i : ℕ) → slice_index bytes i < 256) → (k : ℕ) → slice_index (words_of order bytes) k < 2 ^ 32
words_of-lt order (a ∷ b ∷ c ∷ d ∷ rest) fits zero = number_of-lt order (a ∷ b ∷ c ∷ d ∷ []) (four_fit a b c d rest fits)
words_of-lt order (a ∷ b ∷ c ∷ d ∷ rest) fits (suc k) = words_of-lt order rest (λ i. fits (suc (suc (suc (suc i))))) k
words_of-lt order [] fits k = omega arith
words_of-lt order (a ∷ []) fits k = omega arith
words_of-lt order (a ∷ b ∷ []) fits k = omega arith
words_of-lt order (a ∷ b ∷ c ∷ []) fits k = omega arith

-- ---- what spells words spells these

-- there are four bytes in a word
pub length-bytes_of : (order : Order) (word : ℕ) → length (bytes_of order word) ≡ 4
length-bytes_of Little word = refl
length-bytes_of Big word = refl

-- four bytes spell each word
pub length-spelling_of : (order : Order) (words : List ℕ) → length (spelling_of order words) ≡ 4 * length words
length-spelling_of order [] = refl
length-spelling_of order (word ∷ words) =
    omega (
      arith,
      length-append (bytes_of order word) (spelling_of order words),
      length-bytes_of order word,
      length-spelling_of order words,
    )

-- the bytes of a word in front spell it
pub words_of-bytes_of : (order : Order) (word : ℕ) (rest : List ℕ)
    → word < 2 ^ 32 → words_of order (bytes_of order word ++ rest) ≡ word ∷ words_of order rest
words_of-bytes_of Little word rest lt =
    ap (λ (w : ℕ). w ∷ words_of Little rest) (little_number-reads_back 4 word [] lt)
words_of-bytes_of Big word rest lt =
    ap (λ (w : ℕ). w ∷ words_of Big rest) (big_number-reads_back 4 word [] lt)

-- bytes that spell words spell these
pub words_of-spelling_of : (order : Order) (words : List ℕ) → ((i : ℕ) → slice_index words i < 2 ^ 32)
    → words_of order (spelling_of order words) ≡ words
words_of-spelling_of order [] fits = refl
words_of-spelling_of order (word ∷ words) fits =
    words_of-bytes_of order word (spelling_of order words) (fits 0)
    ∙ ap (λ (ws : List ℕ). word ∷ ws) (words_of-spelling_of order words (λ i. fits (suc i)))

-- two lists whose elements are mapped to the same, place by place
module _ {X : Type 0} (f g : ℕ → X) where
  pub map-same : (words others : List ℕ) → length words ≡ length others
      → ((k : ℕ) → k < length words → f (slice_index words k) ≡ g (slice_index others k)) → map f words ≡ map g others
  map-same [] [] long same = refl
  map-same [] (other ∷ others) long same = absurd (omega arith)
  map-same (word ∷ words) [] long same = absurd (omega arith)
  map-same (word ∷ words) (other ∷ others) long same =
      let rest = map-same words others (omega arith) (λ k lt. same (suc k) (omega arith)) in
      ap (λ (xs : List X). f word ∷ xs) rest ∙ ap (λ (x : X). x ∷ map g others) (same 0 (omega arith))
