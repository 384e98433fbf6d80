-- The reading that the best steps make, from the first word to the last.
-- Serves `reading` and `fits`.
use Rattle.std.proofs.Common.{◌≡◌, ℕ, ◌+◌, ◌-◌, ◌≤◌, Bool, true, false, List, [], ◌∷◌, ◌++◌, map, length, take, drop}
use Rattle.std.proofs.Common.{Option, refl, sym, ap, subst, ◌∙◌, arith}
use Rattle.std.specs.List.{concat, flat_map}
use Rattle.std.specs.Option.{option_to_list}
use Rattle.std.proofs.lemmas.List.{length-take-le, length-drop, take_all, append-nil}
use Rattle.std.proofs.lemmas.Grind.{flat_map-append}
use Rattle.sqz_damage.specs.declared.fit.Fit.{Fit}
use Rattle.sqz_damage.specs.declared.gap.Gap.{Gap}
use Rattle.sqz_damage.specs.declared.step.Step.{Step}
use Rattle.sqz_damage.specs.Votes.{AreVotes, Casts}
use Rattle.sqz_damage.specs.Readings.{Part, Chunk, part_words, IsReading, gaps_among, part_cost, cost_from, IsBestReading, voters_of}
use Rattle.sqz_damage.specs.Losses.{fits_at, fits_among}
use Rattle.sqz_damage.specs.Steps.{step_at, cost_at, part_of, IsStep, AreSteps}
use Rattle.sqz_damage.proofs.FitLemmas.{fits_among-push}
use Rattle.sqz_damage.proofs.ReadingLemmas.{gaps_among-push, cost_from-push, IsReading-push}
use Rattle.sqz_damage.proofs.StepLemmas.{least_from}
use Rattle.sqz_damage.proofs.VoteLemmas.{Casts-none}

-- the steps up to index `p` read these parts
pub record IsPathTo (votes : ℕ → ℕ) (words : List ℕ) (steps : List Step) (p : ℕ) (parts : List Part) : Type 0 where
  pub inside : p ≤ length words
  pub reading : IsReading (take p words) parts
  pub cost_is : cost_from votes 0 parts + cost_at steps p ≡ cost_at steps 0

pub IsPathTo-none : (votes : ℕ → ℕ) (words : List ℕ) (steps : List Step) → IsPathTo votes words steps 0 []
IsPathTo-none votes words steps =
    record { inside = omega arith; reading = record { each = tt; whole = refl }; cost_is = omega arith }

-- the words of a part, by whether it is a gap
part_words-of : (words : List ℕ) (p : ℕ) (step : Step)
    → part_words (part_of words p step) ≡ take (step.end - p) (drop p words)
part_words-of words p step =
    elim step.is_gap as (λ b. part_words (part_of words p (record { cost = step.cost; end = step.end; is_gap = b }))
    ≡ take (step.end - p) (drop p words)) [ true ↦ refl | false ↦ refl ]

module _ (votes : ℕ → ℕ) (words : List ℕ) (steps : List Step) (p : ℕ) (parts : List Part)
    (so_far : IsPathTo votes words steps p parts) where
  -- they end at index `p`
  pub path_end : 0 + length (concat (map part_words parts)) ≡ p
  path_end = omega (arith, ap length so_far.reading.whole, length-take-le p words so_far.inside)

  -- one step more
  pub IsPathTo-more : (step : Step) → step_at steps p ≡ step → IsStep votes words (cost_at steps) p step
      → IsPathTo votes words steps step.end (parts ++ part_of words p step ∷ [])
  IsPathTo-more step at is =
      let part = part_of words p step in
      let ahead = is.ahead in
      let end : p + (step.end - p) ≡ step.end = omega arith in
      record {
        inside = is.inside;
        reading =
            rw end at
            (IsReading-push words p (step.end - p) parts part so_far.reading is.part (part_words-of words p step));
        cost_is =
            omega (
              arith,
              cost_from-push votes 0 parts part,
              ap (λ (k : ℕ). part_cost votes k part) path_end,
              so_far.cost_is,
              is.cost_is,
              ap (λ (s : Step). s.cost) at,
            );
      }

  -- at the end they are the best ones
  pub IsBestReading-at : AreSteps votes words 0 steps → length words ≤ p → IsBestReading votes words parts
  IsBestReading-at are le =
      let whole = take_all p words le in
      let inside = so_far.inside in
      let end : p ≡ length words = omega arith in
      let none : cost_at steps p ≡ 0 = ap (cost_at steps) end ∙ are.last in
      record {
        reading = subst (λ (w : List ℕ). IsReading w parts) whole so_far.reading;
        least = λ other reading.
            omega (
              arith,
              so_far.cost_is,
              none,
              least_from votes words 0 steps are 0 (omega arith) (omega arith) other reading,
            );
      }

-- ---- with the gaps and the votes of the objects

-- the steps up to index `p` read these gaps, and their objects cast these votes for `count` words
pub record IsReadUpTo (base count : ℕ) (votes : ℕ → ℕ) (words : List ℕ) (steps : List Step) (p : ℕ) (gaps : List Gap)
    (found : List Bool) : Type 0 where
  pub parts : List Part
  pub path : IsPathTo votes words steps p parts
  pub gaps_are : gaps_among 0 parts ≡ gaps
  pub sized : length found ≡ count
  pub votes_are : AreVotes base (flat_map voters_of parts) found

pub IsReadUpTo-none : (base count : ℕ) (votes : ℕ → ℕ) (words : List ℕ) (steps : List Step) (found : List Bool)
    → length found ≡ count → AreVotes base [] found → IsReadUpTo base count votes words steps 0 [] found
IsReadUpTo-none base count votes words steps found sized none =
    record { parts = []; path = IsPathTo-none votes words steps; gaps_are = refl; sized = sized; votes_are = none }

module _ (base count : ℕ) (votes : ℕ → ℕ) (words : List ℕ) (steps : List Step) (p : ℕ) (gaps : List Gap) (found : List Bool)
    (so_far : IsReadUpTo base count votes words steps p gaps found) (step : Step) (at : step_at steps p ≡ step)
    (is : IsStep votes words (cost_at steps) p step) where
  abbrev part : Part
  part = part_of words p step

  size : length (take (step.end - p) (drop p words)) ≡ step.end - p
  size = let inside = is.inside in length-take-le (step.end - p) (drop p words) (omega (arith, length-drop p words))

  step_more : (more : List Gap) → gaps_among p (part ∷ []) ≡ more
      → (cast : List Bool) → Casts base (voters_of part) found cast
      → IsReadUpTo base count votes words steps step.end (gaps ++ more) cast
  step_more more gap_is cast casts =
      let here = path_end votes words steps p so_far.parts so_far.path in
      record {
        parts = so_far.parts ++ part ∷ [];
        path = IsPathTo-more votes words steps p so_far.parts so_far.path step at is;
        gaps_are =
            gaps_among-push 0 so_far.parts part
            ∙ ap (λ (k : ℕ). gaps_among 0 so_far.parts ++ gaps_among k (part ∷ [])) here
            ∙ ap (λ (gs : List Gap). gs ++ gaps_among p (part ∷ [])) so_far.gaps_are
            ∙ ap (λ (gs : List Gap). gaps ++ gs) gap_is;
        sized = casts.sized ∙ so_far.sized;
        votes_are =
            rw (flat_map-append voters_of so_far.parts (part ∷ []), append-nil)
            (casts.added (flat_map voters_of so_far.parts) so_far.votes_are);
      }

  -- it reads a chunk
  pub step_over_chunk : step.is_gap ≡ false → (cast : List Bool)
      → Casts base (voters_of (Chunk (take (step.end - p) (drop p words)))) found cast
      → IsReadUpTo base count votes words steps step.end gaps cast
  step_over_chunk reads cast casts =
      let none : gaps_among p (part ∷ []) ≡ [] = rw reads refl in
      rw append-nil at (step_more [] none cast (rw reads casts))

  -- or a gap
  pub step_over_gap : step.is_gap ≡ true
      → IsReadUpTo base count votes words steps step.end (gaps ++ record { first = p; words = step.end - p } ∷ []) found
  step_over_gap skips =
      let gap : gaps_among p (part ∷ []) ≡ record { first = p; words = step.end - p } ∷ [] =
      rw skips (ap (λ (n : ℕ). record { first = p; words = n } ∷ []) size) in
      step_more (record { first = p; words = step.end - p } ∷ []) gap found (rw skips (Casts-none base found))

-- ---- with the objects

-- the steps up to index `p` read these objects
pub record IsFitUpTo (votes : ℕ → ℕ) (has : ℕ → Bool) (lost : ℕ) (words : List ℕ) (steps : List Step) (p : ℕ) (fits : List Fit)
    : Type 0 where
  pub parts : List Part
  pub path : IsPathTo votes words steps p parts
  pub fits_are : fits_among has lost 0 parts ≡ fits

pub IsFitUpTo-none : (votes : ℕ → ℕ) (has : ℕ → Bool) (lost : ℕ) (words : List ℕ) (steps : List Step)
    → IsFitUpTo votes has lost words steps 0 []
IsFitUpTo-none votes has lost words steps = record { parts = []; path = IsPathTo-none votes words steps; fits_are = refl }

module _ (votes : ℕ → ℕ) (has : ℕ → Bool) (lost : ℕ) (words : List ℕ) (steps : List Step) (p : ℕ) (fits : List Fit)
    (so_far : IsFitUpTo votes has lost words steps p fits) (step : Step) (at : step_at steps p ≡ step)
    (is : IsStep votes words (cost_at steps) p step) where
  fits_more : (more : List Fit) → fits_at has lost p (part_of words p step) ≡ more
      → IsFitUpTo votes has lost words steps step.end (fits ++ more)
  fits_more more here_is =
      let part = part_of words p step in
      let here = path_end votes words steps p so_far.parts so_far.path in
      record {
        parts = so_far.parts ++ part ∷ [];
        path = IsPathTo-more votes words steps p so_far.parts so_far.path step at is;
        fits_are =
            fits_among-push has lost 0 so_far.parts part
            ∙ ap (λ (k : ℕ). fits_among has lost 0 so_far.parts ++ fits_at has lost k part) here
            ∙ ap (λ (fs : List Fit). fs ++ fits_at has lost p part) so_far.fits_are
            ∙ ap (λ (fs : List Fit). fits ++ fs) here_is;
      }

  -- it reads a chunk
  pub fits_over_chunk : step.is_gap ≡ false → (fit : Option Fit)
      → option_to_list fit ≡ fits_at has lost p (Chunk (take (step.end - p) (drop p words)))
      → IsFitUpTo votes has lost words steps step.end (fits ++ option_to_list fit)
  fits_over_chunk reads fit found = fits_more (option_to_list fit) (rw reads (sym found))

  -- or a gap
  pub fits_over_gap : step.is_gap ≡ true → IsFitUpTo votes has lost words steps step.end fits
  fits_over_gap skips = rw append-nil at (fits_more [] (rw skips refl))
