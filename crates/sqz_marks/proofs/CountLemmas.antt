-- The number of words that all passes together counted in a region.
-- Serves `KeptLemmas` and `StepLemmas`.
use Rattle.std.proofs.Common.{◌≡◌, ℕ, suc, ◌+◌, ◌^◌, ◌<◌, ◌≤◌, cond, eqb, List, [], ◌∷◌, ◌++◌, refl, sym, ap, subst, ◌∙◌, arith}
use Rattle.std.specs.List.{sum_by}
use Rattle.std.proofs.lemmas.List.{get_or_past}
use Rattle.std.proofs.lemmas.List.Sums.{sum_by-cons, sum_by-append}
use Rattle.sqz_trace.specs.declared.shades.Shade.{Shade}
use Rattle.sqz_trace.specs.declared.shades.Shade.TheVariants.{White, Grey, Black}
use Rattle.sqz_trace.specs.Shades.{shade_at}
use Rattle.sqz_marks.specs.declared.view.View.{View}
use Rattle.sqz_marks.specs.Core.{Marking, State, times, pass_at}
use Rattle.sqz_marks.specs.Lawful.{IsLawful, wins, times_won, words_at, total_counted}
use Rattle.sqz_marks.specs.Table.{HasFewWords}

-- what all passes counted, one after the other
abbrev all_counted : List View → List ℕ
all_counted [] = []
all_counted (view ∷ passes) = view.counted ++ all_counted passes

sum_by-all_counted : (f : ℕ → ℕ) (passes : List View) → sum_by f (all_counted passes) ≡ sum_by (λ view. sum_by f view.counted) passes
sum_by-all_counted f [] = refl
sum_by-all_counted f (view ∷ passes) =
    sum_by-append f view.counted (all_counted passes)
    ∙ ap (λ n. sum_by f view.counted + n) (sum_by-all_counted f passes)
    ∙ sym (sum_by-cons (λ (v : View). sum_by f v.counted) view passes)

-- no object was counted more often than it was won
times_counted-le : (object : ℕ) (passes : List View)
    → ((pass : ℕ) → times object (pass_at passes pass).counted ≤ times object (pass_at passes pass).won)
    → sum_by (λ view. times object view.counted) passes ≤ times_won passes object
times_counted-le object [] le = omega arith
times_counted-le object (view ∷ passes) le =
    omega (
      arith,
      sum_by-cons (λ (v : View). times object v.counted) view passes,
      sum_by-cons (λ (v : View). times object v.won) view passes,
      le 0,
      times_counted-le object passes (λ pass. le (suc pass)),
    )

wins-le : (shade : Shade) → wins shade ≤ 1
wins-le White = omega arith
wins-le Grey = omega arith
wins-le Black = omega arith

module _ (marking : Marking) (state : State) (lawful : IsLawful marking state) where
  times_counted-wins : (object : ℕ) → times object (all_counted state.passes) ≤ wins (shade_at state.shades object)
  times_counted-wins object =
      omega (
        arith,
        sum_by-all_counted (λ other. cond (eqb other object) 1 0) state.passes,
        times_counted-le object state.passes (λ pass. (lawful.truth pass).counted object),
        lawful.won object,
      )

  -- so a region's number is small
  pub total_counted-few : HasFewWords marking → (region : ℕ) → total_counted marking state.passes region < 2 ^ 30
  total_counted-few few region =
      subst (λ n. n < 2 ^ 30) (sum_by-all_counted (words_at marking region) state.passes)
      (few region (all_counted state.passes)
      (λ object. omega (arith, times_counted-wins object, wins-le (shade_at state.shades object)))
      (λ object past.
      let none : wins (shade_at state.shades object) ≡ 0 =
      ap wins (get_or_past state.shades object White (subst (λ n. n ≤ object) (sym lawful.shades.sized) past)) in
      omega (arith, times_counted-wins object, none)))
