-- The objects of readings, and whether slots lead to them.
-- Serves `fits`, `loss` and `WalkLemmas`.
use Rattle.std.proofs.Common.{◌≡◌, ℕ, zero, suc, ◌+◌, ◌-◌, ◌*◌, ◌<◌, ◌≤◌, Bool, true, false, ◌||◌, List, [], ◌∷◌, ◌++◌, map, length, drop}
use Rattle.std.proofs.Common.{Option, Some, refl, sym, ap, subst, ◌∙◌, arith, inl, inr}
use Rattle.std.specs.Prelude.{slice_index_or, if◌then◌else◌, IfSome}
use Rattle.std.specs.List.{concat, flat_map, AllByRecursion}
use Rattle.std.proofs.lemmas.Bool.{cases_lt}
use Rattle.std.proofs.lemmas.Option.{none-some}
use Rattle.std.proofs.lemmas.List.{append-nil, append_assoc, length-append}
use Rattle.sqz_object.specs.Chunk.{IsChunkOf, before, is_object, words_before}
use Rattle.sqz_object.specs.declared.chunk.Kind.{Kind}
use Rattle.sqz_object.specs.declared.chunk.Kind.TheVariants.{Three, Two, Free, Short}
use Rattle.sqz_object.proofs.ChunkLemmas.{chunk_has_header, chunk_not_empty}
use Rattle.sqz_damage.specs.declared.fit.Fit.{Fit}
use Rattle.sqz_damage.specs.declared.reading.Reading.{Reading}
use Rattle.sqz_damage.specs.Counting.{AreFits, IsReadBy}
use Rattle.sqz_damage.specs.Losses.{IsClear, IsLoss, IsLossBefore, either_votes, first_word, fits_at, fits_among, moving, staying}
use Rattle.sqz_damage.specs.Readings.{Part, Chunk, Skipped, part_words, IsPart, voters_of}
use Rattle.sqz_damage.specs.Votes.{AreVotes, has_vote, votes_of}
use Rattle.sqz_damage.proofs.ReadingLemmas.{Agree, IsBestReading-agree}

-- ---- one part more

pub fits_among-push : (has : ℕ → Bool) (lost first : ℕ) (parts : List Part) (part : Part)
    → fits_among has lost first (parts ++ part ∷ [])
    ≡ fits_among has lost first parts ++ fits_at has lost (first + length (concat (map part_words parts))) part
fits_among-push has lost first [] part =
    let none : first + 0 ≡ first = omega arith in rw none (append-nil (fits_at has lost first part))
fits_among-push has lost first (one ∷ parts) part =
    let rest = concat (map part_words parts) in
    let there : first + length (part_words one) + length rest ≡ first + length (part_words one ++ rest) =
    omega (arith, length-append (part_words one) rest) in
    let after = first + length (part_words one) in
    ap (λ (fits : List Fit). fits_at has lost first one ++ fits)
    (fits_among-push has lost after parts part
    ∙ ap (λ (k : ℕ). fits_among has lost after parts ++ fits_at has lost k part) there)
    ∙ sym (append_assoc (fits_at has lost first one) (fits_among has lost after parts)
    (fits_at has lost (first + length (part_words one ++ rest)) part))

-- ---- the object of a chunk

pub fits_at-free : (has : ℕ → Bool) (lost first : ℕ) (chunk : List ℕ) → IsChunkOf Free chunk
    → fits_at has lost first (Chunk chunk) ≡ []
fits_at-free has lost first (free ∷ rest) h = rw h.0 refl
fits_at-free has lost first [] h = absurd h

abbrev pub fit_of_kind : (ℕ → Bool) → ℕ → ℕ → Kind → Fit
fit_of_kind has lost first kind =
    record { first = first; stays = has (first + words_before kind); moves = has (first + words_before kind + lost) }

pub fits_at-object : (has : ℕ → Bool) (lost first : ℕ) (kind : Kind) (chunk : List ℕ) → (kind ≡ Free → ⊥) → IsChunkOf kind chunk
    → fits_at has lost first (Chunk chunk) ≡ fit_of_kind has lost first kind ∷ []
fits_at-object has lost first Three (size ∷ class ∷ base ∷ fields) used h = rw h.0 refl
fits_at-object has lost first Two (class ∷ base ∷ fields) used h = rw h.0 refl
fits_at-object has lost first Short (base ∷ fields) used h = rw h.0 refl
fits_at-object has lost first Free chunk used h = absurd (used refl)
fits_at-object has lost first _ _ used h = absurd h

-- ---- votes that agree for the words

module _ (total lost : ℕ) (f g : ℕ → Bool) (same : (k : ℕ) → k < total + lost → f k ≡ g k) where
  fit_of_kind-agree : (first : ℕ) (kind : Kind) → first + words_before kind < total
      → fit_of_kind f lost first kind ≡ fit_of_kind g lost first kind
  fit_of_kind-agree first kind lt =
      ap (λ (b : Bool). record { first = first; stays = b; moves = f (first + words_before kind + lost) })
      (same (first + words_before kind) (omega arith))
      ∙ ap (λ (b : Bool). record { first = first; stays = g (first + words_before kind); moves = b })
      (same (first + words_before kind + lost) (omega arith))

  fits_at-kind : (first : ℕ) (kind : Kind) (chunk : List ℕ) → (kind ≡ Free → ⊥) → IsChunkOf kind chunk
      → first + length chunk ≤ total → fits_at f lost first (Chunk chunk) ≡ fits_at g lost first (Chunk chunk)
  fits_at-kind first kind chunk used h le =
      fits_at-object f lost first kind chunk used h
      ∙ ap (λ (fit : Fit). fit ∷ []) (fit_of_kind-agree first kind (omega (arith, chunk_has_header kind chunk h)))
      ∙ sym (fits_at-object g lost first kind chunk used h)

  fits_at-agree : (first : ℕ) (part : Part) → IsPart part → first + length (part_words part) ≤ total
      → fits_at f lost first part ≡ fits_at g lost first part
  fits_at-agree first (Skipped words) is le = refl
  fits_at-agree first (Chunk chunk) (Three, h) le = fits_at-kind first Three chunk (λ e. cc) h le
  fits_at-agree first (Chunk chunk) (Two, h) le = fits_at-kind first Two chunk (λ e. cc) h le
  fits_at-agree first (Chunk chunk) (Short, h) le = fits_at-kind first Short chunk (λ e. cc) h le
  fits_at-agree first (Chunk chunk) (Free, h) le = fits_at-free f lost first chunk h ∙ sym (fits_at-free g lost first chunk h)

  pub fits_among-agree : (first : ℕ) (parts : List Part) → AllByRecursion IsPart parts
      → first + length (concat (map part_words parts)) ≤ total → fits_among f lost first parts ≡ fits_among g lost first parts
  fits_among-agree first [] each le = refl
  fits_among-agree first (part ∷ parts) each le =
      let long = length-append (part_words part) (concat (map part_words parts)) in
      ap (λ (fits : List Fit). fits ++ fits_among f lost (first + length (part_words part)) parts)
      (fits_at-agree first part each.0 (omega arith))
      ∙ ap (λ (fits : List Fit). fits_at g lost first part ++ fits)
      (fits_among-agree (first + length (part_words part)) parts each.1 (omega arith))

-- ---- there are no more objects than words

fits_at-le : (has : ℕ → Bool) (lost first : ℕ) (part : Part) → IsPart part → length (fits_at has lost first part) ≤ length (part_words part)
fits_at-le has lost first (Skipped words) is = omega arith
fits_at-le has lost first (Chunk chunk) is =
    let some = chunk_not_empty is.0 chunk is.1 in
    let fit : Fit = record { first = first; stays = has (first + before chunk); moves = has (first + before chunk + lost) } in
    elim (is_object chunk) as (λ b. length (if b then fit ∷ [] else []) ≤ length chunk) [
      | true ↦ omega arith
      | false ↦ omega arith
    ]

fits_among-le : (has : ℕ → Bool) (lost first : ℕ) (parts : List Part) → AllByRecursion IsPart parts
    → length (fits_among has lost first parts) ≤ length (concat (map part_words parts))
fits_among-le has lost first [] each = omega arith
fits_among-le has lost first (part ∷ parts) each =
    let after = first + length (part_words part) in
    omega (
      arith,
      fits_at-le has lost first part each.0,
      fits_among-le has lost after parts each.1,
      length-append (fits_at has lost first part) (fits_among has lost after parts),
      length-append (part_words part) (concat (map part_words parts)),
    )

pub AreFits-le : (votes : ℕ → ℕ) (slots : List Bool) (words : List ℕ) (fits : List Fit) → AreFits votes slots words fits
    → length fits ≤ length words
AreFits-le votes slots words fits are =
    omega (
      arith,
      ap length are.fits_are,
      ap length are.best.reading.whole,
      fits_among-le (λ k. slice_index_or slots k false) (length slots - length words) 0 are.parts are.best.reading.each,
    )

-- ---- where words were lost

abbrev pub IsEither : List Bool → ℕ → List Bool → Type 0
IsEither votes count either =
    (k : ℕ) → k < count
    → slice_index_or either k false ≡ (slice_index_or votes k false || slice_index_or votes (k + (length votes - count)) false)

either_votes-agree : (base lost : ℕ) (voters : List ℕ) (count : ℕ) (votes either : List Bool) → length votes ≡ count + lost
    → AreVotes base voters votes → IsEither votes count either → Agree count (votes_of either) (either_votes base lost voters)
either_votes-agree base lost voters count votes either sized are is k lt =
    let more : length votes - count ≡ lost = omega arith in
    ap (λ (b : Bool). if b then 1 else 0)
    (is k lt
    ∙ ap (λ (n : ℕ). slice_index_or votes k false || slice_index_or votes (k + n) false) more
    ∙ ap (λ (b : Bool). b || slice_index_or votes (k + lost) false) (are k (omega arith))
    ∙ ap (λ (b : Bool). has_vote base voters k || b) (are (k + lost) (omega arith)))

pub IsLoss-found : (base lost : ℕ) (words : List ℕ) (votes either : List Bool) → length votes ≡ length words + lost
    → AreVotes base words votes → IsEither votes (length words) either
    → (first : Reading) → IsReadBy base (length words + lost) (votes_of either) words first
    → (again : List Bool) → IsEither first.votes.items (length words) again
    → (fits : List Fit) → AreFits (votes_of again) first.votes.items words fits
    → (place : Option ℕ) → IsLossBefore fits place → IsLoss base words lost place
IsLoss-found base lost words votes either sized are is first read again is_again fits are_fits place is_place =
    let voters = flat_map voters_of read.parts in
    let slots = first.votes.items in
    let more : length slots - length words ≡ lost = omega (arith, read.sized) in
    let long = ap length are_fits.best.reading.whole in
    let fits_is : fits_among (has_vote base voters) lost 0 are_fits.parts ≡ fits =
    sym (fits_among-agree (length words) lost (λ k. slice_index_or slots k false) (has_vote base voters)
    (λ k lt. read.votes_are k (omega (arith, read.sized))) 0 are_fits.parts are_fits.best.reading.each (omega arith))
    ∙ ap (λ (n : ℕ). fits_among (λ k. slice_index_or slots k false) n 0 are_fits.parts) (sym more)
    ∙ are_fits.fits_are
    in
    record {
      first = read.parts;
      second = are_fits.parts;
      first_best =
          IsBestReading-agree words (votes_of either) (either_votes base lost words) read.parts
          (either_votes-agree base lost words (length words) votes either sized are is) read.best;
      second_best =
          IsBestReading-agree words (votes_of again) (either_votes base lost voters) are_fits.parts
          (either_votes-agree base lost voters (length words) slots again read.sized read.votes_are is_again) are_fits.best;
      place_is = subst (λ (fs : List Fit). IsLossBefore fs place) (sym fits_is) is_place;
    }

-- ---- they were lost before a data word

first_word-within : (total : ℕ) (fits : List Fit) → AllByRecursion (λ fit. fit.first < total) fits → (i : ℕ)
    → IfSome (first_word (drop i fits)) (λ place. place < total)
first_word-within total [] each zero = tt
first_word-within total [] each (suc i) = tt
first_word-within total (fit ∷ fits) each zero = each.0
first_word-within total (fit ∷ fits) each (suc i) = first_word-within total fits each.1 i

fits_among-within : (has : ℕ → Bool) (lost total first : ℕ) (parts : List Part) → AllByRecursion IsPart parts
    → first + length (concat (map part_words parts)) ≤ total
    → AllByRecursion (λ fit. fit.first < total) (fits_among has lost first parts)
fits_among-within has lost total first [] each le = tt
fits_among-within has lost total first (Skipped words ∷ parts) each le =
    fits_among-within has lost total (first + length words) parts each.1
    (omega (arith, length-append words (concat (map part_words parts))))
fits_among-within has lost total first (Chunk chunk ∷ parts) each le =
    let long = length-append chunk (concat (map part_words parts)) in
    let some = chunk_not_empty each.0.0 chunk each.0.1 in
    let rest = fits_among-within has lost total (first + length chunk) parts each.1 (omega arith) in
    let more = fits_among has lost (first + length chunk) parts in
    let fit : Fit = record { first = first; stays = has (first + before chunk); moves = has (first + before chunk + lost) } in
    elim (is_object chunk) as (λ b. AllByRecursion (λ it. it.first < total) ((if b then fit ∷ [] else []) ++ more)) [
      | true ↦ (omega arith, rest)
      | false ↦ rest
    ]

pub IsLoss-within : (base : ℕ) (words : List ℕ) (lost place : ℕ) → IsLoss base words lost (Some place) → place < length words
IsLoss-within base words lost place loss =
    let voters = flat_map voters_of loss.first in
    let fits = fits_among (has_vote base voters) lost 0 loss.second in
    let here = loss.place_is in
    let after = drop here.object fits in
    let reading = loss.second_best.reading in
    let each = fits_among-within (has_vote base voters) lost (length words) 0 loss.second reading.each
    (omega (arith, ap length reading.whole)) in
    let not_clear : (IsClear after → ⊥) → place < length words = λ no. absurd (none-some place (sym (here.unclear no))) in
    elim (cases_lt (moving after) (staying after + 16)) [
      | inl few ↦ not_clear (λ is. let enough = is.0 in omega arith)
      | inr enough ↦ elim (cases_lt (length after) (2 * moving after)) [
        | inl most ↦
            subst (λ (found : Option ℕ). IfSome found (λ k. k < length words)) (sym (here.clear (enough, most)))
            (first_word-within (length words) fits each here.object)
        | inr half ↦ not_clear (λ is. let most = is.1 in omega arith)
      ]
    ]
