-- What passes know stays true as objects get darker, and what a step shows them is true.
-- Serves `EventLemmas` and `RunLemmas`.
use Rattle.std.proofs.Common.{◌≡◌, ℕ, zero, suc, ◌<◌, ◌≤◌, true, List, ◌∷◌, refl, sym, subst, arith, inl, inr}
use Rattle.std.proofs.lemmas.Bool.{cases_eq}
use Rattle.sqz_trace.specs.declared.shades.Shade.{Shade}
use Rattle.sqz_trace.specs.declared.shades.Shade.TheVariants.{Black}
use Rattle.sqz_trace.specs.Graph.{is_marked}
use Rattle.sqz_trace.specs.Shades.{shade_at, marks_of}
use Rattle.sqz_marks.specs.declared.view.View.{View}
use Rattle.sqz_marks.specs.Core.{times, HasWon, HasSeen, spent, seen_by, won_by, counted, blackened, kept_of, part_of, joined}
use Rattle.sqz_marks.specs.Lawful.{KnowsTruth}
use Rattle.sqz_marks.proofs.TimesLemmas.{times-same, times-other, times-more, times-either, times-append, times-in_two}

-- what is marked stays marked, and what is black stays black
pub record AreDarker (old new : List Shade) : Type 0 where
  pub marked : (object : ℕ) → is_marked (marks_of old) object ≡ true → is_marked (marks_of new) object ≡ true
  pub black : (object : ℕ) → shade_at old object ≡ Black → shade_at new object ≡ Black

pub AreDarker-same : (shades : List Shade) → AreDarker shades shades
AreDarker-same shades = record { marked = λ object marked. marked; black = λ object black. black }

-- a pass that saw an object has weight
pub weight-seen : (shades : List Shade) (view : View) (object : ℕ) → KnowsTruth shades view → HasSeen view object → 1 ≤ view.weight
weight-seen shades view object truth seen = by_weight view.weight refl
  where
    by_weight : (weight : ℕ) → view.weight ≡ weight → 1 ≤ view.weight
    by_weight zero e = absurd (let none : 0 < 0 = subst (λ (v : View). HasSeen v object) (truth.idle e) seen in omega arith)
    by_weight (suc weight) e = omega arith

module _ (shades : List Shade) where
  -- what passes know is so of darker shades
  pub KnowsTruth-darker : (new : List Shade) (view : View) → AreDarker shades new → KnowsTruth shades view → KnowsTruth new view
  KnowsTruth-darker new view darker truth =
      record {
        won = truth.won;
        seen = λ object seen. darker.marked object (truth.seen object seen);
        counted = truth.counted;
        blackened = λ object black. darker.black object (truth.blackened object black);
        idle = truth.idle;
      }

  -- a spent pass knows nothing, and so does a new one
  pub KnowsTruth-spent : KnowsTruth shades spent
  KnowsTruth-spent =
      record {
        won = λ object some. absurd (omega arith);
        seen = λ object some. absurd (omega arith);
        counted = λ object. omega arith;
        blackened = λ object some. absurd (omega arith);
        idle = λ e. refl;
      }

  pub KnowsTruth-part : (weight : ℕ) → 1 ≤ weight → KnowsTruth shades (part_of weight)
  KnowsTruth-part weight some =
      record {
        won = λ object some. absurd (omega arith);
        seen = λ object some. absurd (omega arith);
        counted = λ object. omega arith;
        blackened = λ object some. absurd (omega arith);
        idle = λ e. absurd (omega arith);
      }

  module _ (view : View) (truth : KnowsTruth shades view) where
    module _ (object : ℕ) (weight : 1 ≤ view.weight) (marked : is_marked (marks_of shades) object ≡ true) where
      seen_is : (other : ℕ) → 0 < times other (object ∷ view.seen) → is_marked (marks_of shades) other ≡ true
      seen_is other seen =
          elim (times-either other object view.seen seen) [
            | inl same ↦ subst (λ (o : ℕ). is_marked (marks_of shades) o ≡ true) (sym same) marked
            | inr seen ↦ truth.seen other seen
          ]

      won_is : (other : ℕ) → HasWon view other → 0 < times other (object ∷ view.seen)
      won_is other won = omega (arith, truth.won other won, times-more other object view.seen)

      -- it saw an object that is marked
      pub KnowsTruth-seen : KnowsTruth shades (seen_by object view)
      KnowsTruth-seen =
          record { won = won_is; seen = seen_is; counted = truth.counted; blackened = truth.blackened; idle = λ e. absurd (omega arith) }

      -- it won one
      pub KnowsTruth-won : KnowsTruth shades (won_by object view)
      KnowsTruth-won =
          record {
            won = λ other won. elim (times-either other object view.won won) [
              | inl same ↦ subst (λ (o : ℕ). 0 < times o (object ∷ view.seen)) (sym same)
                  (omega (arith, times-same object view.seen))
              | inr won ↦ won_is other won
            ];
            seen = seen_is;
            counted = λ other. omega (arith, truth.counted other, times-more other object view.won);
            blackened = truth.blackened;
            idle = λ e. absurd (omega arith);
          }

    -- it counted one that it won
    pub KnowsTruth-counted : (object : ℕ) → HasWon view object → times object view.counted ≡ 0 → 1 ≤ view.weight
        → KnowsTruth shades (counted object view)
    KnowsTruth-counted object won new weight =
        record {
          won = truth.won;
          seen = truth.seen;
          counted = λ other. elim (cases_eq other object) [
            | inl same ↦ subst (λ (o : ℕ). times o (object ∷ view.counted) ≤ times o view.won) (sym same)
                (omega (arith, won, new, times-same object view.counted))
            | inr differs ↦ omega (arith, truth.counted other, times-other other object view.counted differs)
          ];
          blackened = truth.blackened;
          idle = λ e. absurd (omega arith);
        }

    -- it knows a black object
    pub KnowsTruth-blackened : (object : ℕ) → 1 ≤ view.weight → shade_at shades object ≡ Black
        → KnowsTruth shades (blackened object view)
    KnowsTruth-blackened object weight black =
        record {
          won = truth.won;
          seen = truth.seen;
          counted = truth.counted;
          blackened = λ other known. elim (times-either other object view.blackened known) [
            | inl same ↦ subst (λ (o : ℕ). shade_at shades o ≡ Black) (sym same) black
            | inr known ↦ truth.blackened other known
          ];
          idle = λ e. absurd (omega arith);
        }

    -- it gave up a part of its weight
    pub KnowsTruth-kept : (weight : ℕ) → weight < view.weight → KnowsTruth shades (kept_of weight view)
    KnowsTruth-kept weight below =
        record {
          won = truth.won;
          seen = truth.seen;
          counted = truth.counted;
          blackened = truth.blackened;
          idle = λ e. absurd (omega arith);
        }

    -- it took in another
    pub KnowsTruth-joined : (other : View) → KnowsTruth shades other → 1 ≤ other.weight → KnowsTruth shades (joined view other)
    KnowsTruth-joined other its weight =
        record {
          won = λ object won. elim (times-in_two object view.won other.won won) [
            | inl won ↦ omega (arith, truth.won object won, times-append object view.seen other.seen)
            | inr won ↦ omega (arith, its.won object won, times-append object view.seen other.seen)
          ];
          seen = λ object seen. elim (times-in_two object view.seen other.seen seen) [
            | inl seen ↦ truth.seen object seen
            | inr seen ↦ its.seen object seen
          ];
          counted = λ object.
              omega (
                arith,
                truth.counted object,
                its.counted object,
                times-append object view.counted other.counted,
                times-append object view.won other.won,
              );
          blackened = λ object known. elim (times-in_two object view.blackened other.blackened known) [
            | inl known ↦ truth.blackened object known
            | inr known ↦ its.blackened object known
          ];
          idle = λ e. absurd (omega arith);
        }
