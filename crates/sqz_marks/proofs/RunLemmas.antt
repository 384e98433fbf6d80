-- Marking begins in a lawful state, and each legal run leads to one.
-- Serves `laws::core` and `KeptLemmas`.
use Rattle.std.proofs.Common.{◌≡◌, ◌≢◌, ℕ, zero, suc, ◌+◌, ◌<◌, ◌≤◌, List, [], ◌∷◌, length, set, get_or, refl, sym, ap}
use Rattle.std.proofs.Common.{subst, ◌∙◌, if◌then◌else◌, eq-eqb, ne_eqb, arith, inl, inr}
use Rattle.std.specs.Prelude.{replicate}
use Rattle.std.proofs.lemmas.Bool.{cases_eq}
use Rattle.std.proofs.lemmas.List.{length-replicate, length-set, get_or-set_same, get_or-set_other}
use Rattle.sqz_trace.specs.declared.shades.Shade.{Shade}
use Rattle.sqz_trace.specs.declared.shades.Shade.TheVariants.{White, Grey}
use Rattle.sqz_trace.specs.Shades.{shade_at}
use Rattle.sqz_trace.proofs.ShadeLemmas.{white-black, grey-black, marked-by}
use Rattle.sqz_trace.proofs.LawLemmas.{AreLawful-first}
use Rattle.sqz_marks.specs.declared.view.View.{View}
use Rattle.sqz_marks.specs.Core.{Marking, State, pass_at, first_view, grown, opening, LeadsTo}
use Rattle.sqz_marks.specs.Core.{Event, Look, Claim, Count, Blacken, Split, Join, Meets, after}
use Rattle.sqz_marks.specs.Lawful.{KnowsTruth, IsLawful, wins, times_won, words_at, total_counted}
use Rattle.sqz_marks.proofs.TimesLemmas.{times-same, times-other, times-either}
use Rattle.sqz_marks.proofs.ViewLemmas.{KnowsTruth-spent}
use Rattle.sqz_marks.proofs.EventLemmas.{IsLawful-look, IsLawful-claim, IsLawful-count, IsLawful-blacken}
use Rattle.sqz_marks.proofs.EventLemmas.{IsLawful-split, IsLawful-join}

-- where nothing was counted
abbrev nothing : ℕ → List ℕ
nothing count = replicate count 0

pub none_at : (count index : ℕ) → get_or (nothing count) index 0 ≡ 0
none_at zero index = refl
none_at (suc count) zero = refl
none_at (suc count) (suc index) = none_at count index

module _ (marking : Marking) where
  -- the state in which marking begins
  pub IsLawful-opening : marking.graph.start < marking.graph.count → 1 ≤ marking.workers → IsLawful marking (opening marking)
  IsLawful-opening inside some =
      record {
        shades = AreLawful-first marking.graph inside;
        won = λ object. elim (cases_eq object start) [
          | inl same ↦ subst (λ (o : ℕ). times_won views o ≡ wins (shade_at shades o)) (sym same)
              (let one : wins (shade_at shades start) ≡ 1 = ap wins grey in omega (arith, times-same start [], one))
          | inr differs ↦
              (let none : wins (shade_at shades object) ≡ 0 = ap wins (white object differs) in
              omega (arith, times-other object start [] differs, none))
        ];
        black = λ object black. elim (cases_eq object start) [
          | inl same ↦ absurd (grey-black (sym grey ∙ sym (ap (shade_at shades) same) ∙ black))
          | inr differs ↦ absurd (white-black (sym (white object differs) ∙ black))
        ];
        truth = knows;
        sums =
            record {
              sized =
                  length-set (nothing marking.regions) at first_number ∙ length-replicate {A = ℕ} marking.regions 0;
              each = λ region lt. elim (cases_eq region at) [
                | inl same ↦ subst (λ (r : ℕ). get_or sums r 0 ≡ total_counted marking views r) (sym same)
                    (here (subst (λ (r : ℕ). r < marking.regions) same lt))
                | inr differs ↦
                    (let other = get_or-set_other (nothing marking.regions) at region first_number 0 differs in
                    omega (arith, other, none_at marking.regions region, one region, words_at-other region differs))
              ];
            };
        weights = omega arith;
      } where
        start : ℕ
        start = marking.graph.start

        shades : List Shade
        shades = set (replicate marking.graph.count White) start Grey

        views : List View
        views = first_view marking.workers start ∷ []

        grey : shade_at shades start ≡ Grey
        grey =
            get_or-set_same (replicate marking.graph.count White) start Grey White
            (omega (arith, inside, length-replicate marking.graph.count White))

        at : ℕ
        at = marking.region start

        sums : List ℕ
        sums = grown (nothing marking.regions) at (marking.words start)

        -- the number of the start's region
        first_number : ℕ
        first_number = get_or (nothing marking.regions) at 0 + marking.words start

        one : (region : ℕ) → total_counted marking views region ≡ words_at marking region start
        one region = omega arith

        words_at-same : words_at marking at start ≡ marking.words start
        words_at-same = ap (λ b. if b then marking.words start else 0) (eq-eqb at at refl)

        words_at-other : (region : ℕ) → region ≢ at → words_at marking region start ≡ 0
        words_at-other region differs = ap (λ b. if b then marking.words start else 0) (ne_eqb at region (λ same. differs (sym same)))

        here : at < marking.regions → get_or sums at 0 ≡ total_counted marking views at
        here lt =
            let set = get_or-set_same (nothing marking.regions) at first_number 0
            (omega (arith, lt, length-replicate {A = ℕ} marking.regions 0)) in
            omega (arith, set, none_at marking.regions at, one at, words_at-same)

        all_white : (count index : ℕ) → shade_at (replicate count White) index ≡ White
        all_white zero index = refl
        all_white (suc count) zero = refl
        all_white (suc count) (suc index) = all_white count index

        white : (object : ℕ) → object ≢ start → shade_at shades object ≡ White
        white object differs =
            get_or-set_other (replicate marking.graph.count White) start object Grey White differs
            ∙ all_white marking.graph.count object

        knows : (pass : ℕ) → KnowsTruth shades (pass_at views pass)
        knows zero =
            record {
              won = λ object won. won;
              seen = λ object seen. elim (times-either object start [] seen) [
                | inl same ↦ marked-by shades object Grey (ap (shade_at shades) same ∙ grey) refl
                | inr none ↦ absurd (omega arith)
              ];
              counted = λ object. omega arith;
              blackened = λ object none. absurd (omega arith);
              idle = λ e. absurd (omega arith);
            }
        knows (suc pass) = KnowsTruth-spent shades

  -- the state after an event whose condition is met
  pub IsLawful-after : (state : State) (pass : ℕ) (event : Event) → pass < length state.passes → IsLawful marking state
      → Meets marking state pass event → IsLawful marking (after marking state pass event)
  IsLawful-after state pass (Look object) inside lawful meets = IsLawful-look marking state pass inside lawful object meets.0
  IsLawful-after state pass (Claim parent object) inside lawful meets =
      IsLawful-claim marking state pass inside lawful parent object meets.0 meets.1 meets.2
  IsLawful-after state pass (Count object) inside lawful meets = IsLawful-count marking state pass inside lawful object meets.0 meets.1
  IsLawful-after state pass (Blacken object) inside lawful meets =
      IsLawful-blacken marking state pass inside lawful object meets.0 meets.1 meets.2
  IsLawful-after state pass (Split weight) inside lawful meets =
      IsLawful-split marking state pass inside lawful weight meets.0 meets.1
  IsLawful-after state pass (Join other) inside lawful meets =
      IsLawful-join marking state pass inside lawful other meets.0 meets.1 meets.2

  -- the state to which a legal run leads
  pub IsLawful-led : (from : State) (run : List (ℕ × Event)) (to : State) → IsLawful marking from → LeadsTo marking from run to
      → IsLawful marking to
  IsLawful-led from [] to lawful same = subst (IsLawful marking) same lawful
  IsLawful-led from ((pass, event) ∷ run) to lawful leads =
      IsLawful-led (after marking from pass event) run to (IsLawful-after from pass event leads.0 lawful leads.1) leads.2
