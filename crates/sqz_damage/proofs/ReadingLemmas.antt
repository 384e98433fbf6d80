-- Readings part by part.
-- Serves `StepLemmas`, `WayLemmas`, `WalkLemmas` and `steps`.
use Rattle.std.proofs.Common.{Bool, ◌≡◌, ℕ, zero, suc, ◌*◌, ◌^◌, ◌+◌, ◌-◌, ◌<◌, ◌≤◌, List, [], ◌∷◌, ◌++◌, map, length, take, drop}
use Rattle.std.proofs.Common.{refl, sym, ap, subst, ◌∙◌, arith}
use Rattle.std.specs.List.{concat}
use Rattle.std.proofs.lemmas.List.{take_at, drop_at, drop-drop, length-append, length-drop, length-take-le, map_push}
use Rattle.std.proofs.Math.Seq.{take-add}
use Rattle.sqz_object.specs.Chunk.{IsChunk, IsChunkOf, chunk_kind, base_word, words_before}
use Rattle.sqz_object.specs.Reading.{BeginsWith, description}
use Rattle.sqz_object.specs.declared.chunk.Kind.{Kind}
use Rattle.sqz_object.specs.declared.chunk.Kind.TheVariants.{Three, Two, Free, Short}
use Rattle.sqz_object.proofs.ChunkLemmas.{chunk_has_header, chunk_kind_is}
use Rattle.sqz_object.proofs.PartitionLemmas.{All-push, concat-push}
use Rattle.sqz_damage.specs.declared.gap.Gap.{Gap}
use Rattle.sqz_damage.specs.Votes.{sum_from, votes_for, votes_of, AreVotes}
use Rattle.sqz_damage.specs.Readings.{Part, Chunk, Skipped, part_words, IsPart, IsReading, gaps_among, kept_votes}
use Rattle.sqz_damage.specs.Readings.{skip_cost, part_cost, cost_from, IsBestReading, voters_of, slot_words}
use Rattle.sqz_damage.proofs.VoteLemmas.{le-sum_from, sum_from-more}

-- ---- the votes that a chunk keeps

pub kept_votes-free : (votes : ℕ → ℕ) (first : ℕ) (chunk : List ℕ) → IsChunkOf Free chunk → kept_votes votes first chunk ≡ 0
kept_votes-free votes first (free ∷ rest) h = rw h.0 refl
kept_votes-free votes first [] h = absurd h

pub kept_votes-object : (votes : ℕ → ℕ) (first : ℕ) (kind : Kind) (chunk : List ℕ)
    → (kind ≡ Free → ⊥) → IsChunkOf kind chunk → kept_votes votes first chunk ≡ votes (first + words_before kind)
kept_votes-object votes first Three (size ∷ class ∷ base ∷ fields) used h = rw h.0 refl
kept_votes-object votes first Two (class ∷ base ∷ fields) used h = rw h.0 refl
kept_votes-object votes first Short (base ∷ fields) used h = rw h.0 refl
kept_votes-object votes first Free chunk used h = absurd (used refl)
kept_votes-object votes first _ _ used h = absurd h

-- they are among the votes for its words
pub header_votes-le : (votes : ℕ → ℕ) (first count : ℕ) (kind : Kind) (chunk : List ℕ)
    → IsChunkOf kind chunk → length chunk ≡ count → votes (first + words_before kind) ≤ sum_from votes first count
header_votes-le votes first count kind chunk h is =
    let lt = chunk_has_header kind chunk h in
    let size : first + count - first ≡ count = omega arith in
    rw size at (le-sum_from votes first (first + count) (first + words_before kind) (omega arith) (omega arith))

-- ---- skipped words

-- it costs as much to skip words as to skip the first one and then the others
pub skip_cost-more : (votes : ℕ → ℕ) (p end : ℕ) → p < end
    → skip_cost votes p (end - p) ≡ votes p * 2 ^ 30 + 1 + skip_cost votes (suc p) (end - suc p)
skip_cost-more votes p end lt = omega (arith, sum_from-more votes p end lt)

pub skip_cost-none : (votes : ℕ → ℕ) (p : ℕ) → skip_cost votes p (p - p) ≡ 0
skip_cost-none votes p = let none : p - p ≡ 0 = omega arith in rw none refl

-- ---- the first part of a reading

module _ (words : List ℕ) (p : ℕ) (part : Part) (parts : List Part) (reading : IsReading (drop p words) (part ∷ parts)) where
  abbrev rest : List ℕ
  rest = concat (map part_words parts)

  pub front_is : take (length (part_words part)) (drop p words) ≡ part_words part
  front_is =
      ap (take (length (part_words part))) (sym reading.whole)
      ∙ take_at (part_words part) rest (length (part_words part)) refl

  pub IsReading-rest : IsReading (drop (p + length (part_words part)) words) parts
  IsReading-rest =
      record {
        each = reading.each.1;
        whole =
            sym (drop_at (part_words part) rest (length (part_words part)) refl)
            ∙ ap (drop (length (part_words part))) reading.whole
            ∙ drop-drop (length (part_words part)) p words;
      }

  pub front-le : p ≤ length words → p + length (part_words part) ≤ length words
  front-le le =
      omega (arith, ap length reading.whole, length-append (part_words part) rest, length-drop p words)

-- a reading of some words has a part
pub no_parts : (words : List ℕ) (p : ℕ) → p < length words → IsReading (drop p words) [] → ⊥
no_parts words p lt reading = omega (arith, ap length reading.whole, length-drop p words)

-- ---- one part more

pub gaps_among-push : (first : ℕ) (parts : List Part) (part : Part)
    → gaps_among first (parts ++ part ∷ [])
    ≡ gaps_among first parts ++ gaps_among (first + length (concat (map part_words parts))) (part ∷ [])
gaps_among-push first [] part =
    let none : first + 0 ≡ first = omega arith in rw none refl
gaps_among-push first (Chunk words ∷ parts) part =
    let there : first + length words + length (concat (map part_words parts))
    ≡ first + length (words ++ concat (map part_words parts)) =
    omega (arith, length-append words (concat (map part_words parts))) in
    gaps_among-push (first + length words) parts part
    ∙ ap (λ (k : ℕ). gaps_among (first + length words) parts ++ gaps_among k (part ∷ [])) there
gaps_among-push first (Skipped words ∷ parts) part =
    let there : first + length words + length (concat (map part_words parts))
    ≡ first + length (words ++ concat (map part_words parts)) =
    omega (arith, length-append words (concat (map part_words parts))) in
    let gap : Gap = record { first = first; words = length words } in
    ap (λ (gaps : List Gap). gap ∷ gaps)
    (gaps_among-push (first + length words) parts part
    ∙ ap (λ (k : ℕ). gaps_among (first + length words) parts ++ gaps_among k (part ∷ [])) there)

pub cost_from-push : (votes : ℕ → ℕ) (first : ℕ) (parts : List Part) (part : Part)
    → cost_from votes first (parts ++ part ∷ [])
    ≡ cost_from votes first parts + part_cost votes (first + length (concat (map part_words parts))) part
cost_from-push votes first [] part =
    let none : first + 0 ≡ first = omega arith in rw none (omega arith)
cost_from-push votes first (one ∷ parts) part =
    let there : first + length (part_words one) + length (concat (map part_words parts))
    ≡ first + length (part_words one ++ concat (map part_words parts)) =
    omega (arith, length-append (part_words one) (concat (map part_words parts))) in
    let more = cost_from-push votes (first + length (part_words one)) parts part in
    let same = ap (λ (k : ℕ). part_cost votes k part) there in
    omega (arith, more, same)

pub IsReading-push : (words : List ℕ) (p count : ℕ) (parts : List Part) (part : Part)
    → IsReading (take p words) parts → IsPart part → part_words part ≡ take count (drop p words)
    → IsReading (take (p + count) words) (parts ++ part ∷ [])
IsReading-push words p count parts part reading is_part run =
    record {
      each = All-push IsPart parts part reading.each is_part;
      whole =
          ap concat (map_push part_words parts part)
          ∙ concat-push (map part_words parts) (part_words part)
          ∙ ap (λ (ws : List ℕ). ws ++ part_words part) reading.whole
          ∙ ap (λ (ws : List ℕ). take p words ++ ws) run
          ∙ sym (take-add p count words);
    }

-- ---- votes that agree on the words

-- two ways to count votes agree on `count` words
abbrev pub Agree : ℕ → (ℕ → ℕ) → (ℕ → ℕ) → Type 0
Agree count f g = (k : ℕ) → k < count → f k ≡ g k

sum_from-agree : (total : ℕ) (f g : ℕ → ℕ) → Agree total f g → (first count : ℕ) → first + count ≤ total
    → sum_from f first count ≡ sum_from g first count
sum_from-agree total f g same first zero le = refl
sum_from-agree total f g same first (suc count) le =
    omega (arith, same first (omega arith), sum_from-agree total f g same (suc first) count (omega arith))

kept_votes-agree : (total : ℕ) (f g : ℕ → ℕ) → Agree total f g → (first : ℕ) (kind : Kind) (chunk : List ℕ)
    → IsChunkOf kind chunk → first + length chunk ≤ total → kept_votes f first chunk ≡ kept_votes g first chunk
kept_votes-agree total f g same first Free chunk h le =
    kept_votes-free f first chunk h ∙ sym (kept_votes-free g first chunk h)
kept_votes-agree total f g same first Three chunk h le =
    kept_votes-object f first Three chunk (λ e. cc) h
    ∙ same (first + 2) (omega (arith, chunk_has_header Three chunk h))
    ∙ sym (kept_votes-object g first Three chunk (λ e. cc) h)
kept_votes-agree total f g same first Two chunk h le =
    kept_votes-object f first Two chunk (λ e. cc) h
    ∙ same (first + 1) (omega (arith, chunk_has_header Two chunk h))
    ∙ sym (kept_votes-object g first Two chunk (λ e. cc) h)
kept_votes-agree total f g same first Short chunk h le =
    kept_votes-object f first Short chunk (λ e. cc) h
    ∙ same (first + 0) (omega (arith, chunk_has_header Short chunk h))
    ∙ sym (kept_votes-object g first Short chunk (λ e. cc) h)

part_cost-agree : (total : ℕ) (f g : ℕ → ℕ) → Agree total f g → (first : ℕ) (part : Part) → IsPart part
    → first + length (part_words part) ≤ total → part_cost f first part ≡ part_cost g first part
part_cost-agree total f g same first (Chunk words) is le =
    omega (
      arith,
      sum_from-agree total f g same first (length words) le,
      kept_votes-agree total f g same first is.0 words is.1 le,
    )
part_cost-agree total f g same first (Skipped words) is le =
    omega (arith, sum_from-agree total f g same first (length words) le)

cost_from-agree : (words : List ℕ) (f g : ℕ → ℕ) → Agree (length words) f g → (p : ℕ) (parts : List Part)
    → p ≤ length words → IsReading (drop p words) parts → cost_from f p parts ≡ cost_from g p parts
cost_from-agree words f g same p [] le reading = refl
cost_from-agree words f g same p (part ∷ parts) le reading =
    let inside = front-le words p part parts reading le in
    omega (
      arith,
      part_cost-agree (length words) f g same p part reading.each.0 inside,
      cost_from-agree words f g same (p + length (part_words part)) parts inside
          (IsReading-rest words p part parts reading),
    )

-- so they have the same best readings
pub IsBestReading-agree : (words : List ℕ) (f g : ℕ → ℕ) (parts : List Part) → Agree (length words) f g
    → IsBestReading f words parts → IsBestReading g words parts
IsBestReading-agree words f g parts same best =
    record {
      reading = best.reading;
      least = λ other reading.
          omega (
            arith,
            best.least other reading,
            cost_from-agree words f g same 0 parts (omega arith) best.reading,
            cost_from-agree words f g same 0 other (omega arith) reading,
          );
    }

-- ---- the voters of a chunk

pub voters_of-free : (chunk : List ℕ) → IsChunkOf Free chunk → voters_of (Chunk chunk) ≡ []
voters_of-free (free ∷ rest) h = rw h.0 refl
voters_of-free [] h = absurd h

pub voters_of-object : (kind : Kind) (chunk : List ℕ) → (kind ≡ Free → ⊥) → IsChunkOf kind chunk
    → voters_of (Chunk chunk) ≡ slot_words chunk
voters_of-object Three (size ∷ class ∷ base ∷ fields) used h = rw h.0 refl
voters_of-object Two (class ∷ base ∷ fields) used h = rw h.0 refl
voters_of-object Short (base ∷ fields) used h = rw h.0 refl
voters_of-object Free chunk used h = absurd (used refl)
voters_of-object _ _ used h = absurd h

-- words that begin with a chunk of `count` words begin with what its header states
pub BeginsWith-chunk : (words : List ℕ) (count : ℕ) → count ≤ length words → IsChunk (take count words)
    → BeginsWith words (description (take count words))
BeginsWith-chunk words count le is_chunk =
    let chunk = take count words in
    let (kind, is) = is_chunk in
    let size : length chunk ≡ count = length-take-le count words le in
    let same : take (length chunk) words ≡ chunk = ap (λ (n : ℕ). take n words) size in
    record {
      inside = omega (arith, size);
      is_chunk =
          subst (IsChunkOf (chunk_kind chunk)) (sym same)
          (subst (λ (k : Kind). IsChunkOf k chunk) (sym (chunk_kind_is kind chunk is)) is);
      before = refl;
      base = ap base_word (sym same);
    }

-- votes that were noted for each word are the votes of the voters
pub votes_of-agree : (base : ℕ) (voters : List ℕ) (count : ℕ) (votes : List Bool) → length votes ≡ count
    → AreVotes base voters votes → Agree count (votes_of votes) (votes_for base voters)
votes_of-agree base voters count votes sized are k lt = rw (are k (omega arith)) refl
